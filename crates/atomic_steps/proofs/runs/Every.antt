-- Every run from the opening world.
use Rattle.std.proofs.Common.{◌≡◌, ℕ, ◌<◌, ◌≤◌, ◌≢◌, true, List, [], ◌∷◌, ◌++◌, Some, refl, ap, subst, zero, suc}
use Rattle.std.proofs.lemmas.Option.{none-some}
use Rattle.atomic_steps.specs.declared.steps.Step.TheVariants.{Free}
use Rattle.atomic_steps.specs.declared.steps.StepReply.TheVariants as reply
use Rattle.text_forms.specs.Tables.{Tables}
use Rattle.text_forms.specs.Bounds.{Bounds}
use Rattle.text_forms.specs.Layout.{most_buckets}
use Rattle.atomic_steps.specs.World.{WorldEntry, World, is_living}
use Rattle.atomic_steps.specs.Steps.{entry_at, opening}
use Rattle.atomic_steps.specs.Sound.{At, Sound}
use Rattle.text_forms.specs.Times.{times}
use Rattle.atomic_steps.specs.Runs.{Event, Leads}
use Rattle.atomic_steps.specs.Theorem.{event, IsSoundRun}
use Rattle.atomic_steps.proofs.lists.Facts.{all_at}
use Rattle.atomic_steps.proofs.runs.Opening.{keeps_all, opening_sound, one_map}
use Rattle.atomic_steps.proofs.worlds.Entries.{frees_soundly, sound_by}
use Rattle.atomic_steps.proofs.passes.Zeros.{zeros_go_all}
use Rattle.atomic_steps.proofs.passes.Sweeps.{only_held}
use Rattle.atomic_steps.proofs.passes.Interns.{interns_at_most, interns_once, calls_in_order}

module _ (tables : Tables) where
  tickets_apart : (w : World) → Sound tables w → (j k : ℕ) (x y : WorldEntry) → entry_at w.entries j ≡ Some x → entry_at w.entries k ≡ Some y → x.ticket ≡ y.ticket → j ≡ k
  tickets_apart w sound zero k x y a b e = absurd (none-some x a)
  tickets_apart w sound (suc j) zero x y a b e = absurd (none-some y b)
  tickets_apart w sound (suc j) (suc k) x y a b e = ap suc (sound.table.apart j k x y a b e)

  texts_apart : (w : World) → Sound tables w → (j k : ℕ) (x y : WorldEntry) → entry_at w.entries j ≡ Some x → entry_at w.entries k ≡ Some y → is_living x ≡ true → is_living y ≡ true → x.text ≡ y.text → j ≡ k
  texts_apart w sound zero k x y a b lx ly e = absurd (none-some x a)
  texts_apart w sound (suc j) zero x y a b lx ly e = absurd (none-some y b)
  texts_apart w sound (suc j) (suc k) x y a b lx ly e = ap suc (sound.table.one j k x y a b lx ly e)

  counts_held : (w : World) → Sound tables w → (e : ℕ) (x : WorldEntry) → entry_at w.entries e ≡ Some x → x.count ≡ times x.ticket w.bag
  counts_held w sound zero x a = absurd (none-some x a)
  counts_held w sound (suc k) x a = sound.table.counted k x a

  -- Once an entry was freed, no later event frees it.
  freed_before : (w : World) → Sound tables w → (first : Event) (events : List Event) (new : World) → Leads tables w (first ∷ events) new
      → (j p q e : ℕ) → first ≡ event p (Free e) reply.Freed → At events j (event q (Free e) reply.Freed) → ⊥
  freed_before w sound first events new leads j p q e is later =
      let leads' : Leads tables w (event p (Free e) reply.Freed ∷ events) new = subst (λ (x : Event). Leads tables w (x ∷ events) new) is leads in
      let frees = frees_soundly tables w sound p e events leads'.0 new leads'.1 leads'.2 in
      all_at (λ (x : Event). x.does ≡ Free e → x.reply ≢ reply.Freed) events j (event q (Free e) reply.Freed) later frees.once refl refl

  freed_apart : (w : World) → Sound tables w → (events : List Event) (new : World) → Leads tables w events new
      → (i j p q e : ℕ) → At events i (event p (Free e) reply.Freed) → At events j (event q (Free e) reply.Freed) → i ≡ j
  freed_apart w sound [] new leads i j p q e a b = absurd (none-some _ a)
  freed_apart w sound (x ∷ events) new leads zero zero p q e a b = refl
  freed_apart w sound (x ∷ events) new leads zero (suc j) p q e a b =
      absurd (freed_before w sound x events new leads j p q e (let is : x ≡ event p (Free e) reply.Freed = cc in is) b)
  freed_apart w sound (x ∷ events) new leads (suc i) zero p q e a b =
      absurd (freed_before w sound x events new leads i q p e (let is : x ≡ event q (Free e) reply.Freed = cc in is) a)
  freed_apart w sound (x ∷ events) new leads (suc i) (suc j) p q e a b =
      ap suc (freed_apart leads.0 (sound_by tables w sound x leads.0 leads.1) events new leads.2 i j p q e a b)

  pub every_run : (limits : Bounds) (n : ℕ) (events : List Event) (new : World) → 0 < n → n ≤ most_buckets → Leads tables (opening limits n) events new
      → IsSoundRun tables (opening limits n) events new
  every_run limits n events new some few leads =
      let first = opening_sound tables limits n some few in
      let all = (keeps_all tables (opening limits n) first events new leads).sound in
      let at : (before : List Event) (w : World) → Leads tables (opening limits n) before w → Sound tables w =
      λ before w came. (keeps_all tables (opening limits n) first before w came).sound in
      record {
        steps = leads;
        one_map = one_map tables limits n some few events new leads;
        distinct_tickets = tickets_apart new all;
        distinct_texts = texts_apart new all;
        counts = counts_held new all;
        frees = λ w v party e later part. frees_soundly tables w (at part.before w part.came) party e later part.leads.0 v part.leads.1 part.leads.2;
        freed_once = freed_apart (opening limits n) first events new leads;
        in_order = λ party. calls_in_order tables party (opening limits n) events;
        interns = λ w v party take since text part is. interns_at_most tables w v party take text is since part.leads;
        interned = λ w v party take middle text part is. interns_once tables w v party take text is middle part.leads;
        zeros_go = λ w v party take middle bucket part b. zeros_go_all tables w (at part.before w part.came) party bucket take middle v b part.leads;
        swept = λ w v party part is alone sweeps. only_held tables w (at is.before w is.came) party part v is.leads alone sweeps;
      }

  pub leads-join : (w u v : World) (xs ys : List Event) → Leads tables w xs u → Leads tables u ys v → Leads tables w (xs ++ ys) v
  leads-join w u v [] ys first rest = subst (λ (m : World). Leads tables m ys v) first rest
  leads-join w u v (x ∷ xs) ys first rest = (first.0, first.1, leads-join first.0 u v xs ys first.2 rest)
