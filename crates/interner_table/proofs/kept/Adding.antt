-- A new text among the pairs.
use Rattle.std.proofs.Common.{◌≡◌, ◌∙◌, ap, sym, subst, refl, arith, ℕ, ◌+◌, ◌%◌, ◌^◌, ◌<◌, ◌≤◌, inl, inr, List, [], ◌∷◌, ◌++◌, length, None, Some}
use Rattle.std.specs.Prelude.{slice_get, slice_set, slice_index, String, string_bytes, ◌==◌, if◌then◌else◌}
use Rattle.std.proofs.lemmas.Bool.{eq-eqb}
use Rattle.std.specs.Bool.{nat_eq}
use Rattle.std.specs.Map.{lookup, update}
use Rattle.std.specs.Str.{bytes_eq}
use Rattle.std.specs.String.{string_eq}
use Rattle.std.specs.HashMap.{HashMap, get, Updates}
use Rattle.std.proofs.lemmas.List.{map-append, length-set}
use Rattle.std.proofs.lemmas.List.Sums.{sum_by_push}
use Rattle.indexmap.specs.IndexMap.{insert_entry}
use Rattle.indexmap.specs.IndexSet.{insert_key}
use Rattle.indexmap.proofs.CallerLemmas.{insert_entry-new}
use Rattle.text_forms.specs.Layout.{most_buckets, serial_bound}
use Rattle.text_forms.specs.Map.{Holding}
use Rattle.text_forms.specs.Tables.{Tables, entry_hash, form_of_text, fixed_word}
use Rattle.text_forms.specs.Word.{ticket_of}
use Rattle.interner_table.specs.Kept.{Pair, pairs_of, tickets_of, IsGiven, IsKeptTable}
use Rattle.text_forms.proofs.BucketCounts.{bucket-below, bucket-within}
use Rattle.interner_table.proofs.kept.Pairs.{lookup-pairs, updates-pairs, pair_of_ticket, given-grows, last-set, last-grows}
use Rattle.interner_table.proofs.kept.Tickets.{at-push, is-nowhere}
use Rattle.text_forms.proofs.words.Tickets.{ticket_of-same}

if-own : (bucket serial other : ℕ) → serial ≤ (if bucket == bucket then serial else other)
if-own bucket serial other = rw (eq-eqb bucket bucket refl) (omega arith)

-- the next ticket of a bucket stands nowhere
pub fresh : (t : Tables) (lasts : List ℕ) (pairs : List Pair) (bucket : ℕ) → ((at : ℕ) (pair : Pair) → slice_get pairs at ≡ Some pair → IsGiven t (length lasts) (slice_index lasts) pair.0 pair.1)
    → bucket < most_buckets → (at : ℕ) → slice_get (tickets_of pairs) at ≡ Some (ticket_of (slice_index lasts bucket + 1) bucket) → ⊥
fresh t lasts pairs bucket given below at h =
    let next = ticket_of (slice_index lasts bucket + 1) bucket in
    let p = pair_of_ticket pairs at next h in
    let g = given at (p.0, record { ticket = next; holders = p.1 }) p.2 in
    let same = ticket_of-same bucket (entry_hash t p.0 % length lasts) (slice_index lasts bucket + 1) g.serial below g.right.2 g.is in
    let last = ap (slice_index lasts) same.0 in
    let upto = g.given in
    omega (arith, last, upto, same.1)

module _ {Y S : Type 0} (m r n : HashMap (String Y) Holding S) (key : String Y) (text : List ℕ) (new v : Holding) (is : new ≡ v)
    (reserved : r.entries ≡ m.entries) (spells : string_bytes key ≡ text) (absent : lookup (bytes_eq text) (pairs_of m.entries) ≡ None)
    (inserted : n.entries ≡ insert_entry string_eq r.entries key new) where
  pub pairs-pushed : pairs_of n.entries ≡ pairs_of m.entries ++ (text, v) ∷ []
  pairs-pushed =
      let none : get string_eq r key ≡ None =
      ap (λ (es : List (String Y × Holding)). lookup (string_eq key) es) reserved ∙ sym (lookup-pairs (string_bytes key) m.entries) ∙ ap (λ t. lookup (bytes_eq t) (pairs_of m.entries)) spells ∙ absent in
      ap pairs_of (inserted ∙ ap (insert_entry string_eq r.entries key) is ∙ insert_entry-new string_eq r key v none ∙ ap (λ (es : List (String Y × Holding)). es ++ (key, v) ∷ []) reserved)
      ∙ map-append (λ (e : String Y × Holding). (string_bytes e.0, e.1)) m.entries ((key, v) ∷ [])
      ∙ ap (λ t. pairs_of m.entries ++ (t, v) ∷ []) spells

module _ (t : Tables) (lasts : List ℕ) (pairs : List Pair) (tickets new : List ℕ) (bytes : ℕ) (text : List ℕ) (bucket serial : ℕ)
    (dynamic : fixed_word (form_of_text t text) ≡ None) (own : bucket ≡ entry_hash t text % length lasts) (range : serial < serial_bound) (next : serial ≡ slice_index lasts bucket + 1) (small : length text < 2 ^ 64)
    {bits : ℕ} (inserted : new ≡ insert_key nat_eq tickets (ticket_of serial bucket)) (kept : IsKeptTable t bits lasts pairs tickets bytes) where
  below : bucket < most_buckets
  below = subst (λ (b : ℕ). b < most_buckets) (sym own) (bucket-below (entry_hash t text) bits (length lasts) kept.buckets kept.few)

  within : bucket < length lasts
  within = subst (λ (b : ℕ). b < length lasts) (sym own) (bucket-within (entry_hash t text) bits (length lasts) kept.buckets)

  pub kept-added : IsKeptTable t bits (slice_set lasts bucket serial) (pairs ++ (text, record { ticket = ticket_of serial bucket; holders = 1 }) ∷ []) new (bytes + length text)
  kept-added = record {
    buckets = length-set lasts bucket serial ∙ kept.buckets;
    few = subst (λ (n : ℕ). n ≤ most_buckets) (sym (length-set lasts bucket serial)) kept.few;
    given = λ j pair h. elim (at-push pairs (text, record { ticket = ticket_of serial bucket; holders = 1 }) j pair h) [
      | inl old ↦ grows pair (kept.given j pair old)
      | inr added ↦ subst (λ (pair : Pair). IsGiven t (length (slice_set lasts bucket serial)) (slice_index (slice_set lasts bucket serial)) pair.0 pair.1) added.1 this
    ];
    short = λ j pair h. elim (at-push pairs (text, record { ticket = ticket_of serial bucket; holders = 1 }) j pair h) [
      | inl old ↦ kept.short j pair old
      | inr added ↦ subst (λ (pair : Pair). length pair.0 < 2 ^ 64) added.1 small
    ];
    index = inserted
        ∙ ap (λ b. if b then tickets else tickets ++ ticket_of serial bucket ∷ []) (is-nowhere tickets (ticket_of serial bucket) fresh-here)
        ∙ ap (λ ts. ts ++ ticket_of serial bucket ∷ []) kept.index
        ∙ sym (map-append (λ (pair : Pair). pair.1.ticket) pairs ((text, record { ticket = ticket_of serial bucket; holders = 1 }) ∷ []));
    counted = ap (λ (n : ℕ). n + length text) kept.counted ∙ sym (sum_by_push (λ (pair : Pair). length pair.0) pairs (text, record { ticket = ticket_of serial bucket; holders = 1 }));
  }
    where
      resized : (text : List ℕ) (had : Holding) → IsGiven t (length lasts) (slice_index (slice_set lasts bucket serial)) text had → IsGiven t (length (slice_set lasts bucket serial)) (slice_index (slice_set lasts bucket serial)) text had
      resized text had g = subst (λ (n : ℕ). IsGiven t n (slice_index (slice_set lasts bucket serial)) text had) (sym (length-set lasts bucket serial)) g

      grows : (pair : Pair) → IsGiven t (length lasts) (slice_index lasts) pair.0 pair.1 → IsGiven t (length (slice_set lasts bucket serial)) (slice_index (slice_set lasts bucket serial)) pair.0 pair.1
      grows pair g = resized pair.0 pair.1 (given-grows t (length lasts) (slice_index lasts) (slice_index (slice_set lasts bucket serial)) pair.0 pair.1 (λ other. last-grows lasts bucket serial other within (omega arith)) g)

      fresh-here : (j : ℕ) → slice_get tickets j ≡ Some (ticket_of serial bucket) → ⊥
      fresh-here j h = fresh t lasts pairs bucket kept.given below j (ap (λ ts. slice_get ts j) (sym kept.index) ∙ h ∙ ap (λ (s : ℕ). Some (ticket_of s bucket)) next)

      this : IsGiven t (length (slice_set lasts bucket serial)) (slice_index (slice_set lasts bucket serial)) text (record { ticket = ticket_of serial bucket; holders = 1 })
      this = resized text (record { ticket = ticket_of serial bucket; holders = 1 }) (record {
        dynamic = dynamic;
        serial = serial;
        right = (omega arith, range, subst (λ (b : ℕ). b < most_buckets) own below);
        given = subst (λ (b : ℕ). serial ≤ slice_index (slice_set lasts bucket serial) b) own (rw (last-set lasts bucket serial bucket within) (if-own bucket serial (slice_index lasts bucket)));
        is = ap (λ (b : ℕ). ticket_of serial b) own;
        held = omega arith;
      })

module _ {Y S : Type 0} (m r n : HashMap (String Y) Holding S) (key : String Y) (text : List ℕ) (v w : Holding)
    (reserved : r.entries ≡ m.entries) (spells : string_bytes key ≡ text) (is : v ≡ w) (updates : Updates string_eq r n key (Some v)) where
  -- what the insertion does to the look-ups
  pub added-map : (q : List ℕ) → lookup (bytes_eq q) (pairs_of n.entries) ≡ update bytes_eq (λ t. lookup (bytes_eq t) (pairs_of m.entries)) text (Some w) q
  added-map q = updates-pairs r n (string_bytes key) (Some v) updates q
      ∙ (λ i. update bytes_eq (λ t. lookup (bytes_eq t) (pairs_of (reserved i))) (spells i) (Some (is i)) q)
