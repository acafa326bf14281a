-- A pass interns its text once.
use Rattle.std.proofs.Common.{◌≡◌, ℕ, ◌⊎◌, inl, inr, Bool, true, false, cond, List, [], ◌∷◌, ◌++◌, Option, None, Some, refl, sym, ap, ◌∙◌, subst, append_assoc}
use Rattle.std.specs.Prelude.{◌==◌}
use Rattle.std.proofs.lemmas.Bool.{cases_eq}
use Rattle.std.proofs.lemmas.List.Elements.{filter-append}
use Rattle.std.proofs.lemmas.Option.{same_Some}
use Rattle.atomic_steps.specs.declared.steps.Step.{Step}
use Rattle.atomic_steps.specs.declared.steps.Step.TheVariants.{Leave}
use Rattle.atomic_steps.specs.declared.steps.StepReply.{StepReply}
use Rattle.atomic_steps.specs.declared.steps.StepReply.TheVariants as reply
use Rattle.atomic_steps.specs.World.{PartyPass, World}
use Rattle.atomic_steps.specs.Steps.{pass_of, step}
use Rattle.atomic_steps.specs.Runs.{Made, Event, Leads, call_of, history_of}
use Rattle.atomic_steps.specs.Theorem.{Stays, event, interned_by, texts_in, text_taken, made_by, own_calls}
use Rattle.atomic_steps.proofs.passes.Parties.{Decided, own_event, other_event, took_event, leads-append, others_intern_nothing, by_own}
use Rattle.atomic_steps.proofs.passes.Parties as passes
use Rattle.text_forms.specs.Tables.{Tables}

interned_by-append : (party : ℕ) (xs ys : List Made) → interned_by party (xs ++ ys) ≡ interned_by party xs ++ interned_by party ys
interned_by-append party [] ys = refl
interned_by-append party (x ∷ xs) ys =
    ap (λ (ts : List (List ℕ)). cond (x.by == party) (texts_in x.call) [] ++ ts) (interned_by-append party xs ys)
    ∙ sym (append_assoc (cond (x.by == party) (texts_in x.call) []) (interned_by party xs) (interned_by party ys))

module _ (tables : Tables) where
  after : (w : World) (e : Event) (mid : World) → step tables w e.party e.does ≡ (e.reply, mid) → (step tables w e.party e.does).1 ≡ mid
  after w e mid does = ap (λ (o : StepReply × World). o.1) does

  pub history_of-leads : (w u : World) (xs ys : List Event) → Leads tables w xs u → history_of tables w (xs ++ ys) ≡ history_of tables w xs ++ history_of tables u ys
  history_of-leads w u [] ys leads = ap (λ (v : World). history_of tables v ys) (sym leads)
  history_of-leads w u (x ∷ xs) ys leads =
      let is = after w x leads.0 leads.1 in
      ap (λ (v : World). call_of w x.party x.does x.reply ++ history_of tables v (xs ++ ys)) is
      ∙ ap (λ (cs : List Made). call_of w x.party x.does x.reply ++ cs) (history_of-leads leads.0 u xs ys leads.2)
      ∙ sym (append_assoc (call_of w x.party x.does x.reply) (history_of tables leads.0 xs) (history_of tables u ys))
      ∙ ap (λ (v : World). (call_of w x.party x.does x.reply ++ history_of tables v xs) ++ history_of tables u ys) (sym is)

  then : (a b c : Option (List ℕ)) (xs ys : List (List ℕ)) → Decided a b xs → Decided b c ys → Decided a c (xs ++ ys)
  then a b c xs ys (passes.NotNow e f) (passes.NotNow g h) = passes.NotNow (ap (λ (ts : List (List ℕ)). ts ++ ys) e ∙ g) (h ∙ f)
  then a b c xs ys (passes.NotNow e f) (passes.Now t g h i) = passes.Now t (sym f ∙ g) h (ap (λ (ts : List (List ℕ)). ts ++ ys) e ∙ i)
  then a b c xs ys (passes.Now t g h i) (passes.NotNow e f) = passes.Now t g (f ∙ h) (ap (λ (ts : List (List ℕ)). ts ++ ys) i ∙ ap (λ (ts : List (List ℕ)). t ∷ ts) e)
  then a b c xs ys (passes.Now t g h i) (passes.Now u j k l) = absurd (let e : ◌≡◌ {A = Option (List ℕ)} None (Some u) = sym h ∙ j in cc)

  -- over the events in which the party stays
  pub record Went (w : World) (party : ℕ) (pass : PartyPass) (events : List Event) (v : World) : Type 0 where
    pub next : PartyPass
    pub found : pass_of v party ≡ Some next
    pub decided : Decided pass.wanted next.wanted (interned_by party (history_of tables w events))

  pub goes_on : (w : World) (party : ℕ) (pass : PartyPass) → pass_of w party ≡ Some pass → (events : List Event) (v : World) → Leads tables w events v → Stays party events → Went w party pass events v
  goes_on w party pass found [] v leads stays = record { next = pass; found = subst (λ (u : World). pass_of u party ≡ Some pass) (sym leads) found; decided = passes.NotNow refl refl }
  goes_on w party pass found (e ∷ events) v leads stays =
      let mid = leads.0 in
      let is = after w e mid leads.1 in
      let calls = call_of w e.party e.does e.reply in
      let split : interned_by party calls ++ interned_by party (history_of tables mid events) ≡ interned_by party (history_of tables w (e ∷ events)) =
      sym (ap (λ (u : World). interned_by party (calls ++ history_of tables u events)) is ∙ interned_by-append party calls (history_of tables mid events)) in
      let on : (next : PartyPass) → pass_of mid party ≡ Some next → Decided pass.wanted next.wanted (interned_by party calls) → Went w party pass (e ∷ events) v =
      λ next p d.
      let rest = goes_on mid party next p events v leads.2 stays.1 in
      record {
        next = rest.next;
        found = rest.found;
        decided = subst (λ (ts : List (List ℕ)). Decided pass.wanted rest.next.wanted ts) split
            (then pass.wanted next.wanted rest.next.wanted (interned_by party calls) (interned_by party (history_of tables mid events)) d rest.decided);
      } in
      elim (cases_eq e.party party) [
        | inl own ↦ elim (own_event tables w party pass found e mid own leads.1) [
          | inl g ↦ on g.next g.found (subst (λ (p : ℕ). Decided pass.wanted g.next.wanted (interned_by party (call_of w p e.does e.reply))) (sym own) g.decided)
          | inr out ↦ absurd (stays.0 own out.left)
        ]
        | inr n ↦ on pass (other_event tables w party pass found e mid n leads.1) (passes.NotNow (others_intern_nothing w e.party party n e.does e.reply) refl)
      ]

  module _ (w v : World) (party : ℕ) (take : Step) (text : List ℕ) (is_text : text_taken take ≡ Some text) where
    silently : (mid : World) (rest : List Event) → step tables w party take ≡ (reply.Taken, mid) → interned_by party (history_of tables w (event party take reply.Taken ∷ rest)) ≡ interned_by party (history_of tables mid rest)
    silently mid rest does =
        let t = took_event tables w party take mid does in
        ap (λ (cs : List Made). interned_by party (cs ++ history_of tables (step tables w party take).1 rest)) t.silent
        ∙ ap (λ (u : World). interned_by party (history_of tables u rest)) (ap (λ (o : StepReply × World). o.1) does)

    pub interns_at_most : (since : List Event) → Leads tables w (event party take reply.Taken ∷ since) v → Stays party since
        → let texts = interned_by party (history_of tables w (event party take reply.Taken ∷ since)) in (texts ≡ []) ⊎ (texts ≡ text ∷ [])
    interns_at_most since leads stays =
        let t = took_event tables w party take leads.0 leads.1 in
        let went = goes_on leads.0 party t.pass t.found since v leads.2 stays in
        let start = silently leads.0 since leads.1 in
        elim went.decided [
          | passes.NotNow e f ↦ inl (start ∙ e)
          | passes.Now u g h i ↦ inr (let same : Some u ≡ Some text = sym g ∙ t.wanted ∙ is_text in start ∙ i ∙ ap (λ (x : List ℕ). x ∷ []) (same_Some u text same))
        ]

    pub interns_once : (middle : List Event) → Leads tables w (event party take reply.Taken ∷ middle ++ event party Leave reply.Left ∷ []) v → Stays party middle
        → interned_by party (history_of tables w (event party take reply.Taken ∷ middle ++ event party Leave reply.Left ∷ [])) ≡ text ∷ []
    interns_once middle leads stays =
        let mid = leads.0 in
        let t = took_event tables w party take mid leads.1 in
        let leave = event party Leave reply.Left in
        let parts = leads-append tables mid v middle (leave ∷ []) leads.2 in
        let went = goes_on mid party t.pass t.found middle parts.0 parts.1 stays in
        let start : interned_by party (history_of tables w (event party take reply.Taken ∷ middle ++ leave ∷ [])) ≡ interned_by party (history_of tables mid middle) ++ [] =
        silently mid (middle ++ leave ∷ []) leads.1
        ∙ ap (interned_by party) (history_of-leads mid parts.0 middle (leave ∷ []) parts.1)
        ∙ interned_by-append party (history_of tables mid middle) (history_of tables parts.0 (leave ∷ [])) in
        elim (own_event tables parts.0 party went.next went.found leave parts.2.0 refl parts.2.1) [
          | inl on ↦ absurd (on.stays refl)
          | inr out ↦ elim went.decided [
            | passes.NotNow e f ↦ absurd (let clash : None ≡ Some text = sym out.decided ∙ f ∙ t.wanted ∙ is_text in cc)
            | passes.Now u g h i ↦ (let same : Some u ≡ Some text = sym g ∙ t.wanted ∙ is_text in
                start ∙ ap (λ (ts : List (List ℕ)). ts ++ []) i ∙ ap (λ (x : List ℕ). x ∷ []) (same_Some u text same))
          ]
        ]

  -- ---- the order of calls

  made_by-own : (q party : ℕ) (b : Bool) → (q == party) ≡ b → (calls : List Made) → passes.AllBy q calls → made_by party calls ≡ cond b calls []
  made_by-own q party true t [] all = refl
  made_by-own q party false t [] all = refl
  made_by-own q party true t (x ∷ xs) all =
      ap (λ (b : Bool). cond b (x ∷ made_by party xs) (made_by party xs)) (ap (λ (n : ℕ). n == party) all.0 ∙ t) ∙ ap (λ (zs : List Made). x ∷ zs) (made_by-own q party true t xs all.1)
  made_by-own q party false t (x ∷ xs) all =
      ap (λ (b : Bool). cond b (x ∷ made_by party xs) (made_by party xs)) (ap (λ (n : ℕ). n == party) all.0 ∙ t) ∙ made_by-own q party false t xs all.1

  pub calls_in_order : (party : ℕ) (w : World) (events : List Event) → made_by party (history_of tables w events) ≡ own_calls tables party w events
  calls_in_order party w [] = refl
  calls_in_order party w (e ∷ events) =
      filter-append (λ (made : Made). made.by == party) (call_of w e.party e.does e.reply) (history_of tables (step tables w e.party e.does).1 events)
      ∙ ap (λ (cs : List Made). cs ++ made_by party (history_of tables (step tables w e.party e.does).1 events)) (made_by-own e.party party (e.party == party) refl (call_of w e.party e.does e.reply) (by_own w e.party e.does e.reply))
      ∙ ap (λ (cs : List Made). cond (e.party == party) (call_of w e.party e.does e.reply) [] ++ cs) (calls_in_order party (step tables w e.party e.does).1 events)
