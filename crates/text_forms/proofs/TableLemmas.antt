-- Texts in static tables.
use Rattle.std.proofs.Common.{◌≡◌, ℕ, ◌<◌, List, [], length, get_or, true, false, refl, sym, ap, ◌∙◌, map, nat_lt}
use Rattle.std.specs.Borrow.{Bor}
use Rattle.std.specs.Str.{bytes_eq}
use Rattle.std.proofs.lemmas.List.{get_or-map, length-map}
use Rattle.std.proofs.lemmas.Bool.{lt-ltb}
use Rattle.text_forms.specs.declared.phf.Hashes.{Hashes}
use Rattle.text_forms.specs.declared.static_sets.TextForm.TheVariants.{Static, Dynamic}
use Rattle.text_forms.specs.Phf.{hashes_of, hash_of_hashes, place_of}
use Rattle.std.specs.Cmp.Lexicographic.{bytes_decides}
use Rattle.text_forms.specs.Parts.{parts}
use Rattle.text_forms.specs.Tables.{Tables, place_in, text_at, entry_hash, form_of_text, AllAreStatic}

-- a text that stands at its place is static, and one that doesn't is dynamic
pub static_form : (t : Tables) (text : List ℕ) (p : ℕ) → 7 < length text → place_in t text ≡ p → bytes_eq (text_at t p) text ≡ true → Static p ≡ form_of_text t text
static_form t text p long place same = let l : nat_lt 7 (length text) ≡ true = lt-ltb 7 (length text) long in rw (l, place, same) refl

pub dynamic_form : (t : Tables) (text : List ℕ) (p : ℕ) → 7 < length text → place_in t text ≡ p → bytes_eq (text_at t p) text ≡ false → Dynamic (entry_hash t text) ≡ form_of_text t text
dynamic_form t text p long place differ = let l : nat_lt 7 (length text) ≡ true = lt-ltb 7 (length text) long in rw (l, place, differ) refl

-- where each listed text has its index as its place, it is found there
pub placed_static : (t : Tables) → ((i : ℕ) → i < length t.atoms → place_in t (text_at t i) ≡ i) → AllAreStatic t
placed_static t placed i below long =
    let text = text_at t i in
    sym (static_form t text i long (placed i below) ((bytes_decides text text).1 refl))

-- a listed text that is hashed and placed
module _ (key : ℕ) (disps : List (ℕ × ℕ)) (atoms : List (Bor (List ℕ))) (hashes : List ℕ) (i : ℕ) (d : Bor (List ℕ)) (below : i < length atoms) where
  pub place_of_listed : (h : Hashes) (len p : ℕ) → len ≡ length atoms → h ≡ hashes_of (get_or atoms i d).now key → p ≡ place_of h disps len
      → p ≡ place_in (parts key disps atoms hashes) (text_at (parts key disps atoms hashes) i)
  unfolding place_in
  place_of_listed h len p count hashed is =
      let there : text_at (parts key disps atoms hashes) i ≡ (get_or atoms i d).now = get_or-map (λ (text : Bor (List ℕ)). text.now) atoms i d [] below in
      is ∙ (λ j. place_of (hashed j) disps ((count ∙ sym (length-map atoms (λ (text : Bor (List ℕ)). text.now))) j))
      ∙ ap (λ text. place_of (hashes_of text key) disps (length (map (λ (text : Bor (List ℕ)). text.now) atoms))) (sym there)

-- a text that is looked up in tables with this key and these displacements
module _ (t : Tables) (text : List ℕ) (key : ℕ) (keyed : key ≡ t.key) (h : Hashes) (hashed : h ≡ hashes_of text key) where
  pub looked_up : (disps : List (ℕ × ℕ)) (len p : ℕ) → disps ≡ t.disps → len ≡ length t.atoms → p ≡ place_of h disps len → p ≡ place_in t text
  unfolding place_in
  looked_up disps len p displaced count place = place ∙ (λ j. place_of ((hashed ∙ ap (hashes_of text) keyed) j) (displaced j) (count j))

  pub hashed_as : hash_of_hashes h ≡ entry_hash t text
  unfolding entry_hash
  hashed_as = ap hash_of_hashes (hashed ∙ ap (hashes_of text) keyed)
