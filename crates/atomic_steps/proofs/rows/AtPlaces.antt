-- What the code does at a place is what the table says.
use Rattle.std.proofs.Common.{◌≡◌, ℕ, ◌+◌, ◌<◌, ◌≤◌, ◌≢◌, Bool, true, false, List, [], ◌∷◌, ◌++◌, length, Option, None, Some, refl, sym, ap, ◌∙◌, suc}
use Rattle.std.specs.Prelude.{slice_set, nat_lt, ◌==◌, ◌&&◌}
use Rattle.std.proofs.lemmas.Bool.{eq-eqb, cond-true, cond-false, lt-ltb, le-ltb, ne_eqb}
use Rattle.std.specs.Option.{option_map_or, unwrap_or}
use Rattle.text_forms.specs.Word.{ticket_of}
use Rattle.atomic_steps.specs.declared.steps.world_entry.Place.TheVariants as place
use Rattle.atomic_steps.specs.declared.steps.Step.TheVariants.{Add, Link, Unlink}
use Rattle.atomic_steps.specs.declared.steps.StepReply.{StepReply}
use Rattle.atomic_steps.specs.declared.steps.StepReply.TheVariants as reply
use Rattle.atomic_steps.specs.World.{PartyPass, World}
use Rattle.atomic_steps.specs.Steps.{is_linked_in, wants, step, IsStep, unlink, add, link, last_of, all_found_dying, replaced, ◌>>=◌, only_if, looks_at, finds_dying, decides, with_pass, with_entry, with_ticket, with_one}
use Rattle.atomic_steps.specs.Places.{PassAt, EntryAt}
use Rattle.atomic_steps.proofs.lists.Facts.{some_then, test_fails, test_holds, replied, replied_both}
use Rattle.atomic_steps.proofs.lists.Places.{entry_is}
use Rattle.text_forms.specs.Tables.{Tables}

module _ (tables : Tables) where
  module _ (w : World) (party number at k : ℕ) (p : PassAt w party at) (e : EntryAt w number k) where
    put : (new : PartyPass) → new.party ≡ p.pass.party → with_pass w new ≡ record w { passes = slice_set w.passes at new }
    put new same = ap (λ (ps : List PartyPass). record w { passes = ps }) (p.replaces new same)

    pub unlink_is : is_linked_in p.pass.bucket e.entry ≡ true → step tables w party (Unlink number) ≡ unlink w p.pass number e.entry
    unlink_is h = some_then _ _ _ _ p.found ∙ some_then _ _ _ _ (entry_is w number k e) ∙ test_holds _ _ _ h

    pub add_is : (is_linked_in p.pass.bucket e.entry && wants p.pass e.entry.text) ≡ true → step tables w party (Add number) ≡ add w p.pass number e.entry
    add_is h = some_then _ _ _ _ p.found ∙ some_then _ _ _ _ (entry_is w number k e) ∙ test_holds _ _ _ h

    pub unlink_zero : e.entry.count ≡ 0 → is_linked_in p.pass.bucket e.entry ≡ true → (new : World)
        → new ≡ record w { entries = slice_set w.entries k (record e.entry { place = place.UnlinkedBy party }) } → IsStep tables w party (Unlink number) reply.Unlinked new
    unfolding unlink
    unlink_zero zero_now h new is =
        unlink_is h ∙ cond-true (e.entry.count == 0) _ _ (eq-eqb e.entry.count 0 zero_now)
        ∙ replied reply.Unlinked _ new
        (ap (λ (n : ℕ). with_entry w n (record e.entry { place = place.UnlinkedBy p.pass.party })) e.numbered
        ∙ ap (λ (q : ℕ). with_entry w (suc k) (record e.entry { place = place.UnlinkedBy q })) p.own ∙ sym is)

    pub unlink_kept : e.entry.count ≢ 0 → is_linked_in p.pass.bucket e.entry ≡ true → (new : World)
        → new ≡ record w { passes = slice_set w.passes at (looks_at p.pass number) } → IsStep tables w party (Unlink number) reply.Kept new
    unfolding unlink
    unlink_kept some h new is =
        unlink_is h ∙ cond-false (e.entry.count == 0) _ _ (ne_eqb e.entry.count 0 some)
        ∙ replied reply.Kept _ new (put (looks_at p.pass number) refl ∙ sym is)

    pub add_dying : e.entry.count ≡ 0 → (is_linked_in p.pass.bucket e.entry && wants p.pass e.entry.text) ≡ true → (new : World)
        → new ≡ record w { passes = slice_set w.passes at (finds_dying p.pass number) } → IsStep tables w party (Add number) reply.Dying new
    unfolding add
    add_dying zero_now h new is =
        add_is h ∙ cond-true (e.entry.count == 0) _ _ (eq-eqb e.entry.count 0 zero_now)
        ∙ replied reply.Dying _ new (put (finds_dying p.pass number) refl ∙ sym is)

    pub add_full : e.entry.count ≢ 0 → w.limits.holders ≤ e.entry.count → (is_linked_in p.pass.bucket e.entry && wants p.pass e.entry.text) ≡ true → (new : World)
        → new ≡ record w { passes = slice_set w.passes at (decides (looks_at p.pass number)) } → IsStep tables w party (Add number) reply.Full new
    unfolding add
    add_full some full h new is =
        add_is h ∙ cond-false (e.entry.count == 0) _ _ (ne_eqb e.entry.count 0 some)
        ∙ cond-false (nat_lt e.entry.count w.limits.holders) _ _ (le-ltb e.entry.count w.limits.holders full)
        ∙ replied reply.Full _ new (put (decides (looks_at p.pass number)) refl ∙ sym is)

    pub add_added : e.entry.count ≢ 0 → e.entry.count < w.limits.holders → (is_linked_in p.pass.bucket e.entry && wants p.pass e.entry.text) ≡ true
        → (ticket holders : ℕ) (new : World) → ticket ≡ e.entry.ticket → holders ≡ e.entry.count + 1
        → new ≡ record w {
          entries = slice_set w.entries k (record e.entry { count = e.entry.count + 1 });
          passes = slice_set w.passes at (decides (looks_at p.pass number));
          bag = with_one e.entry.ticket w.bag;
        }
        → IsStep tables w party (Add number) (reply.Added ticket holders) new
    unfolding add
    add_added some room h ticket holders new same_ticket same_holders is =
        add_is h ∙ cond-false (e.entry.count == 0) _ _ (ne_eqb e.entry.count 0 some)
        ∙ cond-true (nat_lt e.entry.count w.limits.holders) _ _ (lt-ltb e.entry.count w.limits.holders room)
        ∙ replied_both (ap (λ (t : ℕ). reply.Added t (e.entry.count + 1)) (sym same_ticket) ∙ ap (λ (n : ℕ). reply.Added ticket n) (sym same_holders))
        (ap (λ (n : ℕ). with_ticket (with_pass (with_entry w n (record e.entry { count = e.entry.count + 1 })) (decides (looks_at p.pass number))) e.entry.ticket) e.numbered
        ∙ ap (λ (ps : List PartyPass). record w {
          entries = slice_set w.entries k (record e.entry { count = e.entry.count + 1 });
          passes = ps;
          bag = with_one e.entry.ticket w.bag;
        }) (p.replaces (decides (looks_at p.pass number)) refl)
        ∙ sym is)
      where
        pair : {r s : StepReply} {u v : World} → r ≡ s → u ≡ v → ◌≡◌ {A = StepReply × World} (r, u) (s, v)
        pair f g i = (f i, g i)

  wanted_text : (f : List ℕ → Bool) (o : Option (List ℕ)) → option_map_or f o false ≡ true → (text : List ℕ) × (o ≡ Some text) × (f text ≡ true)
  wanted_text f None h = absurd (let e : false ≡ true = h in cc)
  wanted_text f (Some text) h = (text, refl, h)

  none_wanted : (f : List ℕ → Bool) (g : List ℕ → StepReply × World) (d : StepReply × World) (o : Option (List ℕ)) → option_map_or f o false ≡ false → unwrap_or (o >>= λ text. only_if (f text) (g text)) d ≡ d
  none_wanted f g d None h = refl
  none_wanted f g d (Some text) h = test_fails (f text) (g text) d h

  module _ (w : World) (party at : ℕ) (room : Bool) (p : PassAt w party at) where
    pub link_no : option_map_or (λ text. all_found_dying w p.pass text) p.pass.wanted false ≡ false → IsStep tables w party (Link room) reply.No w
    link_no h = some_then _ _ _ _ p.found ∙ none_wanted (all_found_dying w p.pass) (link w p.pass room) (reply.No, w) p.pass.wanted h

    pub text_to_link : option_map_or (λ text. all_found_dying w p.pass text) p.pass.wanted false ≡ true → (text : List ℕ) × (p.pass.wanted ≡ Some text) × (all_found_dying w p.pass text ≡ true)
    text_to_link h = wanted_text (all_found_dying w p.pass) p.pass.wanted h

    link_is : (text : List ℕ) → p.pass.wanted ≡ Some text → all_found_dying w p.pass text ≡ true → step tables w party (Link room) ≡ link w p.pass room text
    link_is text wanted h = some_then _ _ _ _ p.found ∙ some_then _ _ _ _ wanted ∙ test_holds _ _ _ h

    decided : (new : World) → new ≡ record w { passes = slice_set w.passes at (decides p.pass) } → with_pass w (decides p.pass) ≡ new
    decided new is = ap (λ (ps : List PartyPass). record w { passes = ps }) (p.replaces (decides p.pass) refl) ∙ sym is

    pub link_spent : option_map_or (λ text. all_found_dying w p.pass text) p.pass.wanted false ≡ true → w.limits.serials ≤ last_of w p.pass.bucket
        → (new : World) → new ≡ record w { passes = slice_set w.passes at (decides p.pass) } → IsStep tables w party (Link room) reply.Spent new
    unfolding link
    link_spent h spent new is =
        let t = text_to_link h in
        link_is t.0 t.1 t.2 ∙ cond-false (nat_lt (last_of w p.pass.bucket) w.limits.serials) _ _ (le-ltb (last_of w p.pass.bucket) w.limits.serials spent)
        ∙ replied reply.Spent _ new (decided new is)

    pub link_memory : option_map_or (λ text. all_found_dying w p.pass text) p.pass.wanted false ≡ true → last_of w p.pass.bucket < w.limits.serials → room ≡ false
        → (new : World) → new ≡ record w { passes = slice_set w.passes at (decides p.pass) } → IsStep tables w party (Link room) reply.Memory new
    unfolding link
    link_memory h serial no_room new is =
        let t = text_to_link h in
        link_is t.0 t.1 t.2 ∙ cond-true (nat_lt (last_of w p.pass.bucket) w.limits.serials) _ _ (lt-ltb (last_of w p.pass.bucket) w.limits.serials serial)
        ∙ cond-false room _ _ no_room ∙ replied reply.Memory _ new (decided new is)

    pub link_linked : (h : option_map_or (λ text. all_found_dying w p.pass text) p.pass.wanted false ≡ true) → last_of w p.pass.bucket < w.limits.serials → room ≡ true
        → (serial entry ticket : ℕ) (new : World) → serial ≡ last_of w p.pass.bucket + 1 → entry ≡ length w.entries + 1 → ticket ≡ ticket_of serial p.pass.bucket
        → new ≡ record w {
          lasts = slice_set w.lasts p.pass.bucket serial;
          entries = w.entries ++ record { text = (text_to_link h).0; bucket = p.pass.bucket; ticket = ticket_of serial p.pass.bucket; count = 1; place = place.Linked } ∷ [];
          passes = slice_set w.passes at (decides (looks_at p.pass (length w.entries + 1)));
          bag = with_one (ticket_of serial p.pass.bucket) w.bag;
        }
        → IsStep tables w party (Link room) (reply.Linked entry ticket) new
    unfolding link
    link_linked h below has_room serial entry ticket new s e t is =
        let text = text_to_link h in
        link_is text.0 text.1 text.2 ∙ cond-true (nat_lt (last_of w p.pass.bucket) w.limits.serials) _ _ (lt-ltb (last_of w p.pass.bucket) w.limits.serials below)
        ∙ cond-true room _ _ has_room
        ∙ ap (λ (n : ℕ). (reply.Linked (length w.entries + 1) (ticket_of n p.pass.bucket), linked n (replaced w.passes (decides (looks_at p.pass (length w.entries + 1)))))) (sym s)
        ∙ replied_both (ap (λ (n : ℕ). reply.Linked n (ticket_of serial p.pass.bucket)) (sym e) ∙ ap (λ (n : ℕ). reply.Linked entry n) (sym t))
        (ap (linked serial) (p.replaces (decides (looks_at p.pass (length w.entries + 1))) refl) ∙ sym is)
      where
        linked : ℕ → List PartyPass → World
        linked n ps = record w {
          lasts = slice_set w.lasts p.pass.bucket n;
          entries = w.entries ++ record { text = (text_to_link h).0; bucket = p.pass.bucket; ticket = ticket_of n p.pass.bucket; count = 1; place = place.Linked } ∷ [];
          passes = ps;
          bag = with_one (ticket_of n p.pass.bucket) w.bag;
        }
