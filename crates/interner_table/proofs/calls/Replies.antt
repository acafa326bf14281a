-- What a table's call does, as the reply of its map.
use Rattle.std.proofs.Common.{◌≡◌, ◌∙◌, ap, sym, subst, refl, arith, ℕ, ◌+◌, ◌-◌, ◌<◌, ◌≤◌, inl, inr, cond, List, None, Some, Result, Ok, Err}
use Rattle.std.specs.Prelude.{OnOk, OnErr, IfOk, IfErr, ◌==◌}
use Rattle.std.proofs.lemmas.Bool.{cases_Bool, eqb-true}
use Rattle.text_forms.specs.declared.faults.Fault.{Fault}
use Rattle.text_forms.specs.declared.faults.Fault.TheVariants.{Memory, FullCount, TicketsSpent}
use Rattle.text_forms.specs.Bounds.{Bounds}
use Rattle.text_forms.specs.Map.{Holding, InternMap, IsHeldTicket, MapReply, Intern, MayReply, MayIntern, with_held, with_last, one_more, one_less, unless_given_up}
use Rattle.interner_table.specs.Table.{as_word, Adds, Clones, Gives}
use Rattle.interner_table.specs.Kept.{Kept, map_of}
use Rattle.text_forms.specs.Tables.{Tables, bucket_of}
use Rattle.text_forms.specs.Word.{ticket_of}

abbrev pub InternReply : Tables → Bounds → InternMap → List ℕ → Result ℕ Fault → InternMap → Type 0
InternReply t limits m text result new = (reply : MapReply) × MayReply t limits m (Intern text) reply new × (result ≡ as_word reply)

-- a text that is held
pub interned-held : (t : Tables) (limits : Bounds) (m new : InternMap) (text : List ℕ) (had : Holding) (result : Result ℕ Fault) → m.held text ≡ Some had
    → Adds limits m text had result new → InternReply t limits m text result new
interned-held t limits m new text had result held a = (a.0, subst (λ o. MayIntern t limits m text o a.0 new) (sym held) a.1, a.2)

pub full : (limits : Bounds) (m : InternMap) (text : List ℕ) (had : Holding) → limits.holders ≤ had.holders → Adds limits m text had (Err FullCount) m
full limits m text had more = (Err FullCount, inr (more, refl, refl), refl)

pub one_holder_more : (limits : Bounds) (m new : InternMap) (text : List ℕ) (had : Holding) (word : ℕ) → had.holders < limits.holders → word ≡ had.ticket
    → new ≡ with_held m text (Some (one_more had)) → Adds limits m text had (Ok word) new
one_holder_more limits m new text had word less is now = (Ok (one_more had), inl (less, refl, now), ap Ok is)

-- what is left once one gave it
pub none_left : (had : Holding) → had.holders ≡ 1 → unless_given_up (one_less had) ≡ None
none_left had e = rw e refl

pub some_left : (had : Holding) → 0 < had.holders → (had.holders ≡ 1 → ⊥) → unless_given_up (one_less had) ≡ Some (one_less had)
some_left had some more = elim (cases_Bool ((had.holders - 1) == 0)) [
  | inl same ↦ let e = eqb-true (had.holders - 1) 0 same in absurd (more (omega (arith, e, some)))
  | inr apart ↦ ap (λ b. cond b None (Some (one_less had))) apart
]

abbrev pub first_of_bucket : ℕ → ℕ → Holding
first_of_bucket serial bucket = record { ticket = ticket_of serial bucket; holders = 1 }

-- a text that isn't held
module _ (t : Tables) (limits : Bounds) (m : InternMap) (text : List ℕ) (bucket : ℕ) (own : bucket ≡ bucket_of t m.buckets text) (none : m.held text ≡ None) where
  pub interned-spent : limits.serials ≤ m.last bucket → InternReply t limits m text (Err TicketsSpent) m
  interned-spent spent =
      (Err TicketsSpent, subst (λ o. MayIntern t limits m text o (Err TicketsSpent) m) (sym none) (inr (inr (subst (λ b. limits.serials ≤ m.last b) own spent, refl, refl))), refl)

  pub interned-new : (new : InternMap) (result : Result ℕ Fault) → m.last bucket < limits.serials → IfOk result (λ word. word ≡ ticket_of (m.last bucket + 1) bucket)
      → OnOk result (new ≡ with_last (with_held m text (Some (first_of_bucket (m.last bucket + 1) bucket))) bucket (m.last bucket + 1))
      → OnErr result (new ≡ m) → IfErr result (λ fault. fault ≡ Memory) → InternReply t limits m text result new
  interned-new new (Ok word) less is ok err fault =
      let b = bucket_of t m.buckets text in (
        Ok (first_of_bucket (m.last b + 1) b),
        subst (λ o. MayIntern t limits m text o (Ok (first_of_bucket (m.last b + 1) b)) new) (sym none)
            (inl (subst (λ b. m.last b < limits.serials) own less, refl, ok ∙ ap (λ b. with_last (with_held m text (Some (first_of_bucket (m.last b + 1) b))) b (m.last b + 1)) own)),
        ap Ok is ∙ ap (λ b. Ok (ticket_of (m.last b + 1) b)) own,
      )
  interned-new new (Err f) less is ok err fault =
      (Err Memory, subst (λ o. MayIntern t limits m text o (Err Memory) new) (sym none) (inr (inl (subst (λ b. m.last b < limits.serials) own less, refl, err))), ap Err fault)

-- the same, of a table and the last serial that was read
pub added : (t : Tables) (old new : Kept) (text : List ℕ) (bucket last : ℕ) (result : Result ℕ Fault) → bucket ≡ bucket_of t (map_of old).buckets text → (map_of old).held text ≡ None → last ≡ (map_of old).last bucket
    → last < old.limits.serials → IfOk result (λ word. word ≡ ticket_of (last + 1) bucket)
    → OnOk result (map_of new ≡ with_last (with_held (map_of old) text (Some (first_of_bucket (last + 1) bucket))) bucket (last + 1))
    → OnErr result (new ≡ old) → IfErr result (λ fault. fault ≡ Memory) → InternReply t old.limits (map_of old) text result (map_of new)
added t old new text bucket last (Ok word) own none read less is ok err fault =
    interned-new t old.limits (map_of old) text bucket own none (map_of new) (Ok word) (omega (arith, read, less)) (is ∙ ap (λ (l : ℕ). ticket_of (l + 1) bucket) read)
    (ok ∙ ap (λ (l : ℕ). with_last (with_held (map_of old) text (Some (first_of_bucket (l + 1) bucket))) bucket (l + 1)) read) tt tt
added t old new text bucket last (Err f) own none read less is ok err fault =
    interned-new t old.limits (map_of old) text bucket own none (map_of new) (Err f) (omega (arith, read, less)) tt tt (ap map_of err) fault

-- ---- by ticket

abbrev pub as_held : (m : InternMap) (ticket : ℕ) (text : List ℕ) (holders : ℕ) → m.held text ≡ Some (record { ticket = ticket; holders = holders }) → IsHeldTicket m ticket
as_held m ticket text holders held = record { text = text; holders = holders; held = held }

pub cloned-ticket : (t : Tables) (limits : Bounds) (m new : InternMap) (ticket : ℕ) (k : IsHeldTicket m ticket) (result : Result ℕ Fault) → Adds limits m k.text (record { ticket = ticket; holders = k.holders }) result new
    → Clones t limits m ticket result new
cloned-ticket t limits m new ticket k result a = inr (a.0, (k, a.1), a.2)

pub given-ticket : (t : Tables) (limits : Bounds) (m new : InternMap) (ticket : ℕ) (k : IsHeldTicket m ticket) → new ≡ with_held m k.text (unless_given_up (one_less (record { ticket = ticket; holders = k.holders })))
    → Gives t limits m ticket new
given-ticket t limits m new ticket k is = inr (Ok (one_less (record { ticket = ticket; holders = k.holders })), (k, (refl, is)))
