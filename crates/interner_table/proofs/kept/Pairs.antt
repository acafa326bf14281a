-- The pairs of a table as a map of texts.
use Rattle.std.proofs.Common.{◌≡◌, ◌∙◌, ap, sym, subst, refl, arith, ℕ, suc, zero, ◌%◌, ◌^◌, ◌<◌, ◌≤◌, ◌⊎◌, inl, inr, true, false, cond, List, [], ◌∷◌, length, map, Option, Some, true≢false, get_or, set}
use Rattle.std.specs.Prelude.{slice_get, slice_set, slice_index, String, string_bytes, ◌==◌, if◌then◌else◌}
use Rattle.std.specs.Map.{lookup, update, keys_of, lookup_key}
use Rattle.std.specs.Str.{bytes_eq}
use Rattle.std.specs.String.{string_eq, string_eq_equiv}
use Rattle.std.specs.HashMap.{HashMap, UpdatesBy}
use Rattle.std.specs.List.{IsDistinct}
use Rattle.std.proofs.lemmas.Bool.{eqb-true, eq-eqb, cases_Bool}
use Rattle.std.proofs.lemmas.List.{get_or-set_same, get_or-set_other, length-set}
use Rattle.std.proofs.lemmas.Map.Entries.{place_from_lookup, lookup_from_place}
use Rattle.std.proofs.lemmas.Map.Made.{lookup_key_passes}
use Rattle.std.proofs.lemmas.Slice.Eq.{bytes_eq-Decides}
use Rattle.std.proofs.lemmas.Map.Text.{hash_map_updates_text}
use Rattle.std.proofs.lemmas.Option.{same_Some, none-some}
use Rattle.indexmap.specs.Layout.{set_value_at}
use Rattle.indexmap.specs.IndexMap.{with_value_at, values, IsUnique}
use Rattle.indexmap.proofs.CallerLemmas.{updates-with_value_at}
use Rattle.text_forms.specs.Bounds.{Bounds}
use Rattle.text_forms.specs.Map.{Holding, InternMap, with_held, with_last}
use Rattle.interner_table.specs.Kept.{Pair, pairs_of, tickets_of, IsGiven, IsKeptTable}
use Rattle.interner_table.specs.Places.{IsFound}
use Rattle.text_forms.specs.Tables.{Tables, entry_hash}
use Rattle.interner_table.proofs.kept.Bytes.{bytes-set}

-- ---- look-ups

module _ {Y : Type 0} where
  -- a text is looked up among the pairs as among the entries
  pub lookup-pairs : (text : List ℕ) (es : List (String Y × Holding)) → lookup (bytes_eq text) (pairs_of es) ≡ lookup (λ k. bytes_eq text (string_bytes k)) es
  lookup-pairs text [] = refl
  lookup-pairs text (e ∷ es) = ap (λ o. cond (bytes_eq text (string_bytes e.0)) (Some e.1) o) (lookup-pairs text es)

  pub at-pairs : (es : List (String Y × Holding)) (at : ℕ) (key : String Y) (v : Holding) → slice_get es at ≡ Some (key, v) → slice_get (pairs_of es) at ≡ Some (string_bytes key, v)
  at-pairs [] at key v h = absurd (none-some _ h)
  at-pairs (e ∷ es) zero key v h = ap (λ x. Some (string_bytes x.0, x.1)) (same_Some _ _ h)
  at-pairs (e ∷ es) (suc at) key v h = at-pairs es at key v h

  -- where a pair stands, an entry stands
  pub entry-at : (es : List (String Y × Holding)) (at : ℕ) (pair : Pair) → slice_get (pairs_of es) at ≡ Some pair
      → (key : String Y) × (slice_get es at ≡ Some (key, pair.1)) × (string_bytes key ≡ pair.0)
  entry-at [] at pair h = absurd (none-some _ h)
  entry-at (e ∷ es) zero pair h = let same = same_Some _ _ h in (e.0, ap (λ (v : Holding). Some (e.0, v)) (ap (λ (x : Pair). x.1) same), ap (λ (x : Pair). x.0) same)
  entry-at (e ∷ es) (suc at) pair h = entry-at es at pair h

  -- what stands at a place is found by its text
  pub found_at : (es : List (String Y × Holding)) (at : ℕ) (pair : Pair) → IsDistinct string_eq (keys_of es) → slice_get (pairs_of es) at ≡ Some pair
      → lookup (bytes_eq pair.0) (pairs_of es) ≡ Some pair.1
  found_at es at pair distinct h =
      let e = entry-at es at pair h in
      lookup-pairs pair.0 es ∙ ap (λ t. lookup (λ (k : String Y). bytes_eq t (string_bytes k)) es) (sym e.2) ∙ lookup_from_place string_eq_equiv es at e.0 pair.1 distinct e.1

  -- what an update of the entries does to the map
  pub updates-pairs : {S : Type 0} (m n : HashMap (String Y) Holding S) (text : List ℕ) (w : Option Holding) → UpdatesBy string_eq (λ k. bytes_eq text (string_bytes k)) m n w
      → (q : List ℕ) → lookup (bytes_eq q) (pairs_of n.entries) ≡ update bytes_eq (λ t. lookup (bytes_eq t) (pairs_of m.entries)) text w q
  updates-pairs m n text w u q =
      lookup-pairs q n.entries ∙ hash_map_updates_text text m n w u q ∙ ap (λ o. cond (bytes_eq text q) w o) (sym (lookup-pairs q m.entries))

  -- ---- one entry's value is written

  pub tickets-set : (es : List (String Y × Holding)) (at : ℕ) (pair : Pair) (w : Holding) → w.ticket ≡ pair.1.ticket → slice_get (pairs_of es) at ≡ Some pair
      → tickets_of (pairs_of (set_value_at es at w)) ≡ tickets_of (pairs_of es)
  tickets-set [] at pair w same h = refl
  tickets-set (e ∷ es) zero pair w same h = ap (λ (t : ℕ). t ∷ tickets_of (pairs_of es)) (same ∙ sym (ap (λ (x : Pair). x.1.ticket) (same_Some _ _ h)))
  tickets-set (e ∷ es) (suc at) pair w same h = ap (λ ts. e.1.ticket ∷ ts) (tickets-set es at pair w same h)

  -- what holds of all pairs, and of the new one, holds of all afterwards
  pub all-set : (P : Pair → Type 0) (es : List (String Y × Holding)) (at : ℕ) (w : Holding)
      → ((pair : Pair) → slice_get (pairs_of es) at ≡ Some pair → P (pair.0, w))
      → ((j : ℕ) (pair : Pair) → slice_get (pairs_of es) j ≡ Some pair → P pair)
      → (j : ℕ) (pair : Pair) → slice_get (pairs_of (set_value_at es at w)) j ≡ Some pair → P pair
  all-set P [] at w new old j pair h = absurd (none-some _ h)
  all-set P (e ∷ es) zero w new old zero pair h = subst P (same_Some _ _ h) (new (string_bytes e.0, e.1) refl)
  all-set P (e ∷ es) zero w new old (suc j) pair h = old (suc j) pair h
  all-set P (e ∷ es) (suc at) w new old zero pair h = old zero pair h
  all-set P (e ∷ es) (suc at) w new old (suc j) pair h = all-set P es at w new (λ k. old (suc k)) j pair h

pub ticket-there : (pairs : List Pair) (at : ℕ) (pair : Pair) → slice_get pairs at ≡ Some pair → slice_get (tickets_of pairs) at ≡ Some pair.1.ticket
ticket-there [] at pair h = absurd (none-some _ h)
ticket-there (x ∷ xs) zero pair h = ap (λ (x : Pair). Some x.1.ticket) (same_Some _ _ h)
ticket-there (x ∷ xs) (suc at) pair h = ticket-there xs at pair h

-- where a text is found, it stands
pub stands : (pairs : List Pair) (text : List ℕ) (v : Holding) → lookup (bytes_eq text) pairs ≡ Some v → (at : ℕ) × (slice_get pairs at ≡ Some (text, v))
stands pairs text v h =
    let p = place_from_lookup (bytes_eq text) pairs v h in
    (p.0, p.2 ∙ ap (λ (t : List ℕ). Some (t, v)) (sym ((bytes_eq-Decides text p.1).0 p.3)))

-- where a ticket stands, a pair of it stands
pub pair_of_ticket : (pairs : List Pair) (at ticket : ℕ) → slice_get (tickets_of pairs) at ≡ Some ticket
    → (text : List ℕ) × (holders : ℕ) × (slice_get pairs at ≡ Some (text, record { ticket = ticket; holders = holders }))
pair_of_ticket [] at ticket h = absurd (none-some _ h)
pair_of_ticket (x ∷ xs) zero ticket h = (x.0, x.1.holders, ap (λ (t : ℕ). let v : Holding = record { ticket = t; holders = x.1.holders } in Some (x.0, v)) (same_Some _ _ h))
pair_of_ticket (x ∷ xs) (suc at) ticket h = pair_of_ticket xs at ticket h

-- ---- last serials

-- the last serials, with one written
pub last-set : (lasts : List ℕ) (bucket serial other : ℕ) → bucket < length lasts → slice_index (slice_set lasts bucket serial) other ≡ (if other == bucket then serial else slice_index lasts other)
last-set lasts bucket serial other within = by (cases_Bool (other == bucket))
  where
    by : ((other == bucket) ≡ true) ⊎ ((other == bucket) ≡ false) → slice_index (slice_set lasts bucket serial) other ≡ (if other == bucket then serial else slice_index lasts other)
    by (inl same) = rw same (ap (λ k. get_or (set lasts bucket serial) k 0) (eqb-true other bucket same) ∙ get_or-set_same lasts bucket serial 0 within)
    by (inr apart) = rw apart (get_or-set_other lasts bucket other serial 0 (λ e. true≢false (sym (eq-eqb other bucket e) ∙ apart)))

-- a last serial only grows where a greater one is written
pub last-grows : (lasts : List ℕ) (bucket serial other : ℕ) → bucket < length lasts → slice_index lasts bucket ≤ serial → slice_index lasts other ≤ slice_index (slice_set lasts bucket serial) other
last-grows lasts bucket serial other within more = rw (last-set lasts bucket serial other within) (by (cases_Bool (other == bucket)))
  where
    by : ((other == bucket) ≡ true) ⊎ ((other == bucket) ≡ false) → slice_index lasts other ≤ (if other == bucket then serial else slice_index lasts other)
    by (inl same) = rw same (let e = ap (slice_index lasts) (eqb-true other bucket same) in omega (arith, e, more))
    by (inr apart) = rw apart (omega arith)

-- what was given stays so where last serials only grow
pub given-grows : (t : Tables) (buckets : ℕ) (last next : ℕ → ℕ) (text : List ℕ) (had : Holding) → ((bucket : ℕ) → last bucket ≤ next bucket)
    → IsGiven t buckets last text had → IsGiven t buckets next text had
given-grows t buckets last next text had grows g =
    record {
      dynamic = g.dynamic;
      serial = g.serial;
      right = g.right;
      given = (let below = g.given in let more = grows (entry_hash t text % buckets) in omega (arith, below, more));
      is = g.is;
      held = g.held;
    }

-- as many hold it as may be
pub given-held : (t : Tables) (buckets : ℕ) (last : ℕ → ℕ) (text : List ℕ) (had now : Holding) → had.ticket ≡ now.ticket → 0 < now.holders
    → IsGiven t buckets last text had → IsGiven t buckets last text now
given-held t buckets last text had now same some g =
    record { dynamic = g.dynamic; serial = g.serial; right = g.right; given = g.given; is = sym same ∙ g.is; held = some }

-- ---- the holders at a place are written

pub some-pair : {X : Type 0} (xs : List X) (at : ℕ) → at < length xs → (x : X) × (slice_get xs at ≡ Some x)
some-pair [] at h = absurd (omega arith)
some-pair (x ∷ xs) zero h = (x, refl)
some-pair (x ∷ xs) (suc at) h = some-pair xs at (omega arith)

pub value-at : {Y : Type 0} (es : List (String Y × Holding)) (j : ℕ) (pair : Pair) → slice_get (pairs_of es) j ≡ Some pair → slice_get (map (λ e. e.1) es) j ≡ Some pair.1
value-at [] j pair h = absurd (none-some _ h)
value-at (e ∷ es) zero pair h = ap (λ (x : Pair). Some x.1) (same_Some _ _ h)
value-at (e ∷ es) (suc j) pair h = value-at es j pair h

abbrev pub holds_now : Holding → ℕ → Holding
holds_now had holders = record { ticket = had.ticket; holders = holders }

module _ {Y S : Type 0} (t : Tables) (lasts : List ℕ) (m n : HashMap (String Y) Holding S) (tickets : List ℕ) (bytes at holders : ℕ) where
  module _ (pair : Pair) (there : slice_get (pairs_of m.entries) at ≡ Some pair)
      (written : (held : Holding) → slice_get (values m) at ≡ Some held → n ≡ with_value_at m at (holds_now held holders)) where
    pub is-written : n ≡ with_value_at m at (holds_now pair.1 holders)
    is-written = written pair.1 (value-at m.entries at pair there)

    pub written-kept : {bits : ℕ} → 0 < holders → IsKeptTable t bits lasts (pairs_of m.entries) tickets bytes → IsKeptTable t bits lasts (pairs_of n.entries) tickets bytes
    written-kept {bits} some kept = subst (λ (k : HashMap (String Y) Holding S). IsKeptTable t bits lasts (pairs_of k.entries) tickets bytes) (sym is-written) (record {
      buckets = kept.buckets;
      few = kept.few;
      given = all-set (λ pair. IsGiven t (length lasts) (slice_index lasts) pair.0 pair.1) m.entries at (holds_now pair.1 holders)
          (λ own h. given-held t (length lasts) (slice_index lasts) own.0 own.1 (holds_now pair.1 holders) (ap (λ (p : Pair). p.1.ticket) (same_Some _ _ (sym h ∙ there))) some (kept.given at own h)) kept.given;
      short = all-set (λ pair. length pair.0 < 2 ^ 64) m.entries at (holds_now pair.1 holders) (λ own h. kept.short at own h) kept.short;
      index = kept.index ∙ sym (tickets-set m.entries at pair (holds_now pair.1 holders) refl there);
      counted = kept.counted ∙ sym (bytes-set m.entries at (holds_now pair.1 holders));
    })

    pub written-map : IsUnique string_eq m → (q : List ℕ)
        → lookup (bytes_eq q) (pairs_of n.entries) ≡ update bytes_eq (λ t. lookup (bytes_eq t) (pairs_of m.entries)) pair.0 (Some (holds_now pair.1 holders)) q
    written-map unique q =
        let e = entry-at m.entries at pair there in
        let u = updates-with_value_at m at (holds_now pair.1 holders) string_eq_equiv unique e.0 pair.1 e.1 in
        ap (λ (k : HashMap (String Y) Holding S). lookup (bytes_eq q) (pairs_of k.entries)) is-written
        ∙ updates-pairs m (with_value_at m at (holds_now pair.1 holders)) (string_bytes e.0) (Some (holds_now pair.1 holders)) u q
        ∙ ap (λ t. update bytes_eq (λ t. lookup (bytes_eq t) (pairs_of m.entries)) t (Some (holds_now pair.1 holders)) q) e.2

-- the map that these last serials and pairs show
abbrev pub shows : List ℕ → List Pair → InternMap
shows lasts pairs = record { buckets = length lasts; held = λ text. lookup (bytes_eq text) pairs; last = λ bucket. slice_index lasts bucket }

pub map-is : (lasts : List ℕ) (old new : List Pair) (text : List ℕ) (w : Option Holding)
    → ((q : List ℕ) → lookup (bytes_eq q) new ≡ update bytes_eq (λ t. lookup (bytes_eq t) old) text w q) → shows lasts new ≡ with_held (shows lasts old) text w
map-is lasts old new text w h = λ i. record { buckets = length lasts; held = λ q. h q i; last = λ bucket. slice_index lasts bucket }

pub map-with-last : (lasts : List ℕ) (old new : List Pair) (text : List ℕ) (w : Option Holding) (bucket serial : ℕ) → bucket < length lasts
    → ((q : List ℕ) → lookup (bytes_eq q) new ≡ update bytes_eq (λ t. lookup (bytes_eq t) old) text w q)
    → shows (slice_set lasts bucket serial) new ≡ with_last (with_held (shows lasts old) text w) bucket serial
map-with-last lasts old new text w bucket serial within h = λ i. record { buckets = length-set lasts bucket serial i; held = λ q. h q i; last = λ other. last-set lasts bucket serial other within i }

-- the key that a text finds has that text
pub key-of : {Y : Type 0} (es : List (String Y × Holding)) (text : List ℕ) (key : String Y) → lookup_key (λ k. bytes_eq text (string_bytes k)) es ≡ Some key → text ≡ string_bytes key
key-of es text key h = (bytes_eq-Decides text (string_bytes key)).0 (lookup_key_passes (λ k. bytes_eq text (string_bytes k)) es key h)

-- what a look-up by text gives, stands at its place
pub found-is : {Y : Type 0} (limits : Bounds) (lasts : List ℕ) (es : List (String Y × Holding)) (text : List ℕ) (at : ℕ) (key : String Y) (v : Holding)
    → slice_get es at ≡ Some (key, v) → lookup_key (λ k. bytes_eq text (string_bytes k)) es ≡ Some key → lookup (λ k. bytes_eq text (string_bytes k)) es ≡ Some v
    → IsFound (record { limits = limits; lasts = lasts; pairs = pairs_of es }) text at v
found-is limits lasts es text at key v entry of_key value = record {
  there = at-pairs es at key v entry ∙ ap (λ (t : List ℕ). Some (t, v)) (sym (key-of es text key of_key));
  held = lookup-pairs text es ∙ value;
}

-- the same pairs and tickets, wherever they lie
pub kept-moved : (t : Tables) {bits : ℕ} (lasts : List ℕ) (old new : List Pair) (tickets moved : List ℕ) (bytes : ℕ) → new ≡ old → moved ≡ tickets → IsKeptTable t bits lasts old tickets bytes → IsKeptTable t bits lasts new moved bytes
kept-moved t {bits} lasts old new tickets moved bytes same stays kept =
    subst (λ pairs. IsKeptTable t bits lasts pairs moved bytes) (sym same) (subst (λ ts. IsKeptTable t bits lasts old ts bytes) (sym stays) kept)
