-- What the code does at an entry, whoever's pass it is, is what the table says.
use Rattle.std.proofs.Common.{◌≡◌, ℕ, ◌+◌, ◌-◌, ◌%◌, ◌<◌, ◌≤◌, Bool, true, false, cond, List, Option, None, Some, refl, sym, ap, ◌∙◌, subst}
use Rattle.std.specs.Option.{unwrap_or}
use Rattle.std.specs.Str.{bytes_eq}
use Rattle.text_forms.specs.declared.faults.Fault.{Fault}
use Rattle.std.specs.Prelude.{Result, Ok, Err, IfOk, slice_set, nat_lt, ◌&&◌, is_none, length}
use Rattle.std.proofs.lemmas.Bool.{cond-true, cond-false, lt-ltb, le-ltb}
use Rattle.atomic_steps.specs.declared.steps.Step.{Step}
use Rattle.atomic_steps.specs.declared.steps.Step.TheVariants.{TakeSweep, Clone, Give}
use Rattle.atomic_steps.specs.declared.steps.StepReply.{StepReply}
use Rattle.atomic_steps.specs.declared.steps.StepReply.TheVariants as reply
use Rattle.atomic_steps.specs.World.{World}
use Rattle.atomic_steps.specs.Steps.{take_intern_if, pass_of, is_free, has, step, IsStep, clone, give, without_one, take_bucket, with_entry, with_ticket, with_one}
use Rattle.atomic_steps.specs.Places.{EntryAt}
use Rattle.atomic_steps.proofs.lists.Facts.{some_then, test_holds, replied, replied_both}
use Rattle.atomic_steps.proofs.lists.Places.{entry_is}
use Rattle.text_forms.specs.Tables.{Tables, entry_hash, form_of_text, text_at, place_in, is_dynamic, is_dynamic_form, bucket_of}
use Rattle.text_forms.specs.declared.static_sets.TextForm.{TextForm}
use Rattle.text_forms.specs.declared.static_sets.TextForm.TheVariants as form

and_three : (a b c : Bool) → b ≡ true → (a && c) ≡ true → (a && b && c) ≡ true
and_three true true true e f = refl
and_three true true false e f = f
and_three true false c e f = absurd (let g : false ≡ true = e in cc)
and_three false b c e f = absurd (let g : false ≡ true = f in cc)

module _ (tables : Tables) where
  module _ (w : World) (party number k : ℕ) (e : EntryAt w number k) where
    clone_is : has w.bag e.entry.ticket ≡ true → step tables w party (Clone number) ≡ clone w number e.entry
    clone_is h = some_then _ _ _ _ (entry_is w number k e) ∙ test_holds _ _ _ h

    pub clone_full : has w.bag e.entry.ticket ≡ true → w.limits.holders ≤ e.entry.count → IsStep tables w party (Clone number) reply.Full w
    unfolding clone
    clone_full h full = clone_is h ∙ cond-false (nat_lt e.entry.count w.limits.holders) _ _ (le-ltb e.entry.count w.limits.holders full)

    pub clone_more : has w.bag e.entry.ticket ≡ true → e.entry.count < w.limits.holders → (holders : ℕ) (new : World) → holders ≡ e.entry.count + 1
        → new ≡ record w { entries = slice_set w.entries k (record e.entry { count = e.entry.count + 1 }); bag = with_one e.entry.ticket w.bag } → IsStep tables w party (Clone number) (reply.Cloned holders) new
    unfolding clone
    clone_more h room holders new n is =
        clone_is h ∙ cond-true (nat_lt e.entry.count w.limits.holders) _ _ (lt-ltb e.entry.count w.limits.holders room)
        ∙ replied_both (ap (λ (m : ℕ). reply.Cloned m) (sym n))
        (ap (λ (m : ℕ). with_ticket (with_entry w m (record e.entry { count = e.entry.count + 1 })) e.entry.ticket) e.numbered ∙ sym is)

  module _ (w : World) (party number k : ℕ) (e : EntryAt w number k) where
    pub give_given : has w.bag e.entry.ticket ≡ true → (left : ℕ) (new : World) → left ≡ e.entry.count - 1
        → new ≡ record w { entries = slice_set w.entries k (record e.entry { count = e.entry.count - 1 }); bag = without_one e.entry.ticket w.bag } → IsStep tables w party (Give number) (reply.Given left) new
    unfolding give
    give_given h left new n is =
        some_then _ _ _ _ (entry_is w number k e) ∙ test_holds _ _ _ h
        ∙ replied_both (ap (λ (m : ℕ). reply.Given m) (sym n)) (ap after e.numbered ∙ sym is)
      where
        after : ℕ → World
        after m = (let v = with_entry w m (record e.entry { count = e.entry.count - 1 }) in record v { bag = without_one e.entry.ticket w.bag })

  module _ (w : World) (party bucket : ℕ) where
    pub sweep_taken : (n : ℕ) → n ≡ bucket → nat_lt bucket (length w.lasts) ≡ true → (is_none (pass_of w party) && is_free w n) ≡ true → (new : World) → new ≡ (take_bucket w party n None).1
        → IsStep tables w party (TakeSweep bucket) reply.Taken new
    unfolding take_bucket
    sweep_taken n e inside h new is =
        test_holds _ _ _ (and_three (is_none (pass_of w party)) (nat_lt bucket (length w.lasts)) (is_free w bucket) inside (ap (λ (m : ℕ). is_none (pass_of w party) && is_free w m) (sym e) ∙ h))
        ∙ replied reply.Taken _ new (ap (λ (m : ℕ). (take_bucket w party m None).1) (sym e) ∙ sym is)

by_form : (b c : Bool) (place hash own : ℕ) (text : List ℕ) → cond {A = TextForm} b (cond {A = TextForm} c (form.Static place) (form.Dynamic own)) (form.Inline text) ≡ form.Dynamic hash → hash ≡ own
by_form true true place hash own text e = absurd cc
by_form true false place hash own text e = cc
by_form false c place hash own text e = absurd cc

-- a dynamic text's hash is its entry's
pub hash_is : (tables : Tables) (text : List ℕ) (hash : ℕ) → form_of_text tables text ≡ form.Dynamic hash → hash ≡ entry_hash tables text
hash_is tables text hash e = by_form (nat_lt 7 (length text)) (bytes_eq (text_at tables (place_in tables text)) text) (place_in tables text) hash (entry_hash tables text) text e

module _ (tables : Tables) (w : World) (party : ℕ) (text : List ℕ) where
  abbrev Intern : StepReply → World → Type 0
  Intern r new = unwrap_or (take_intern_if tables w party text) (reply.No, w) ≡ (r, new)

  module _ (hash bucket : ℕ) (is : form_of_text tables text ≡ form.Dynamic hash) (right : bucket ≡ hash % length w.lasts) where
    bucket_is : bucket ≡ bucket_of tables (length w.lasts) text
    bucket_is = right ∙ ap (λ (n : ℕ). n % length w.lasts) (hash_is tables text hash is)

    pub intern_taken : (idle : Bool) → idle ≡ (is_none (pass_of w party) && is_free w bucket) → idle ≡ true → (wanted : Option (List ℕ)) → wanted ≡ Some text → (new : World) → new ≡ (take_bucket w party bucket wanted).1 → Intern reply.Taken new
    unfolding take_bucket
    intern_taken idle told holds wanted same new e =
        test_holds _ _ _ (and_three (is_none (pass_of w party)) (is_dynamic tables text) (is_free w (bucket_of tables (length w.lasts) text)) (ap is_dynamic_form is)
        (ap (λ (m : ℕ). is_none (pass_of w party) && is_free w m) (sym bucket_is) ∙ sym told ∙ holds))
        ∙ replied reply.Taken _ new (ap (λ (m : ℕ). (take_bucket w party m (Some text)).1) (sym bucket_is) ∙ ap (λ (o : Option (List ℕ)). (take_bucket w party bucket o).1) (sym same) ∙ sym e)

-- ---- a step whose reply doesn't depend on the tables

module _ (tables : Tables) (w : World) (party : ℕ) (s s' : Step) (new : World) (is : s ≡ s') where
  pub at_tables : (r : Result StepReply Fault) → IfOk r (λ reply. (t : Tables) → IsStep t w party s' reply new) → IfOk r (λ reply. IsStep tables w party s reply new)
  at_tables (Ok reply) h = subst (λ (s : Step). IsStep tables w party s reply new) (sym is) (h tables)
  at_tables (Err fault) h = tt

  pub always_at_tables : (reply : StepReply) → ((t : Tables) → IsStep t w party s' reply new) → IsStep tables w party s reply new
  always_at_tables reply h = subst (λ (s : Step). IsStep tables w party s reply new) (sym is) (h tables)
