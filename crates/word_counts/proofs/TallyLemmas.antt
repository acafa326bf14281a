-- A tally after a word is counted.
use Rattle.std.proofs.Common.{◌≡◌, ℕ, ◌+◌, ◌<◌, Bool, true, false, cond, List, [], ◌∷◌, refl, sym, ap, ◌∙◌, subst, add-zero, HashMap, IfSome}
use Rattle.std.specs.Prelude.{Option, Some, None}
use Rattle.std.specs.Option.{option_map_or}
use Rattle.std.specs.HashMap.{UpdatesBy, PutsEntry, get_by}
use Rattle.std.specs.Cmp.Lexicographic.{bytes_decides, nat_list_eq_equiv}
use Rattle.std.specs.List.{All}
use Rattle.std.specs.Map.{lookup, set_value}
use Rattle.std.specs.Str.{bytes_eq}
use Rattle.std.proofs.lemmas.List.Elements.{All-cons, All-head, All-tail}
use Rattle.std.proofs.lemmas.List.Sorted.{All-permutation}
use Rattle.std.proofs.lemmas.Map.Text.{hash_map_updates_str}
use Rattle.string_cache.specs.AtomValue.{AtomValue}
use denote.Ref.{Bor}
use Rattle.word_counts.specs.Tally.{number_of, AddsTo}

-- equality of words where they lie
abbrev pub same_word : Bor (List ℕ) → Bor (List ℕ) → Bool
same_word word other = bytes_eq word.now other.now

-- an entry's atom has the text of its word, and its number is above zero
abbrev pub IsOwn : Bor (List ℕ) × (AtomValue × ℕ) → Type 0
IsOwn entry = (entry.1.0.text ≡ entry.0.now) × (0 < entry.1.1)

abbrev pub number_in : Option (AtomValue × ℕ) → ℕ
number_in found = option_map_or (λ f. f.1) found 0

-- ---- a word is counted n times more

step_number : (b c : Bool) (v : AtomValue × ℕ) (found : Option (AtomValue × ℕ)) (n : ℕ) → c ≡ b → (b ≡ true → v.1 ≡ number_in found + n)
    → number_in (cond b (Some v) found) ≡ number_in found + cond c n 0
step_number true c v found n same is = is refl ∙ ap (λ d. number_in found + cond d n 0) (sym same)
step_number false c v found n same is = sym (add-zero (number_in found)) ∙ ap (λ d. number_in found + cond d n 0) (sym same)

pub added : {S : Type 0} (m k : HashMap (Bor (List ℕ)) (AtomValue × ℕ) S) (word : List ℕ) (v : AtomValue × ℕ) (n : ℕ)
    → UpdatesBy same_word (λ key. bytes_eq word key.now) m k (Some v) → v.1 ≡ number_of m word + n → AddsTo m k word n
added m k word v n updates is other =
    ap number_in (hash_map_updates_str word m k (Some v) updates other)
    ∙ step_number (bytes_eq word other) (bytes_eq other word) v (get_by (λ key. bytes_eq other key.now) m) n (nat_list_eq_equiv.symm other word)
    (λ e. is ∙ ap (λ t. number_of m t + n) ((bytes_decides word other).0 e))

pub own_set : (word : Bor (List ℕ)) (v : AtomValue × ℕ) → v.0.text ≡ word.now → 0 < v.1 → (es : List (Bor (List ℕ) × (AtomValue × ℕ))) → All IsOwn es
    → All IsOwn (set_value (same_word word) es v)
own_set word v text some [] own = own
own_set word v text some (e ∷ es) own =
    let rest = own_set word v text some es (All-tail IsOwn e es own) in
    elim (same_word word e.0) as (λ b. same_word word e.0 ≡ b → All IsOwn (cond b ((e.0, v) ∷ es) (e ∷ set_value (same_word word) es v))) [
      | true ↦ λ same. All-cons IsOwn (e.0, v) es (text ∙ (bytes_decides word.now e.0.now).0 same, some) (All-tail IsOwn e es own)
      | false ↦ λ same. All-cons IsOwn e (set_value (same_word word) es v) (All-head IsOwn e es own) rest
    ] refl

pub own_put : {S : Type 0} (m k : HashMap (Bor (List ℕ)) (AtomValue × ℕ) S) (word : Bor (List ℕ)) (v : AtomValue × ℕ) (old : Option (AtomValue × ℕ))
    → v.0.text ≡ word.now → 0 < v.1 → PutsEntry same_word m k word v old → All IsOwn m.entries → All IsOwn k.entries
own_put m k word v None text some puts own = All-permutation IsOwn ((word, v) ∷ m.entries) k.entries puts (All-cons IsOwn (word, v) m.entries (text, some) own)
own_put m k word v (Some o) text some puts own = subst (All IsOwn) (sym puts) (own_set word v text some m.entries own)

-- what is found by a word has an atom of that text
pub own_found : (word : List ℕ) (es : List (Bor (List ℕ) × (AtomValue × ℕ))) → All IsOwn es → IfSome (lookup (λ key. bytes_eq word key.now) es) (λ found. found.0.text ≡ word)
own_found word [] own = tt
own_found word (e ∷ es) own =
    let rest = own_found word es (All-tail IsOwn e es own) in
    elim (bytes_eq word e.0.now) as (λ b. bytes_eq word e.0.now ≡ b → IfSome (cond b (Some e.1) (lookup (λ key. bytes_eq word key.now) es)) (λ found. found.0.text ≡ word)) [
      | true ↦ λ same. (All-head IsOwn e es own).0 ∙ sym ((bytes_decides word e.0.now).0 same)
      | false ↦ λ same. rest
    ] refl
