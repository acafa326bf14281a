-- What a call of a table leaves, from the call of its map.
use Rattle.std.proofs.Common.{◌≡◌, ◌≢◌, ◌∙◌, refl, sym, ◌⊎◌, ℕ, ◌<◌, ◌≤◌, inl, inr, Bool, false, List, length, ◌∷◌, ◌++◌, IsTrue, None, Result, Ok, Err}
use Rattle.std.specs.Prelude.{◌↔◌, IfErr, IfOk, IfSome, IsSome}
use Rattle.std.specs.Str.{IsUtf8}
use Rattle.std.proofs.lemmas.Bool.{false≢true}
use Rattle.text_forms.specs.Bounds.{Bounds}
use Rattle.text_forms.specs.declared.faults.Fault.{Fault}
use Rattle.text_forms.specs.Map.{InternMap}
use Rattle.interner_table.specs.Kept.{Kept, map_of, tickets_of, IsSoundMap}
use Rattle.interner_table.specs.Order.{ComesLast, GoesFrom}
use Rattle.interner_table.specs.Outcomes.{Cloned, Given, Interned}
use Rattle.interner_table.specs.Table.{AreBothHeld, AreHeld, Clones, Gives, GivesIfHeld, HasWord, Interns, IsHeld, IsTextOf, IsWordOf, KeepsWord, in_some}
use Rattle.text_forms.specs.Tables.{Tables}
use Rattle.text_forms.specs.Word.{inline_word}
use Rattle.interner_table.proofs.calls.Found.{both-held, own-word, same-word}
use Rattle.interner_table.proofs.calls.Keep.{cloned-listed, cloned-word, clones-grow, gives-keeps, gives-listed, grows-keeps, grows-same, held-given, interned-listed, interned-owned, interns-fresh, interns-grow, listed-held, owned-held, owned-long, owned-short}
use Rattle.interner_table.proofs.calls.WordsApart.{one-text-each}

-- ---- interning

module _ (t : Tables) (old : Kept) (text : List ℕ) (new : Kept) (utf8 : IsUtf8 text) where
  interned-word : (reply : Result ℕ Fault) → Interns t old.limits (map_of old) text reply (map_of new) → IfOk reply (λ word. HasWord t (map_of new) text word)
  interned-word (Ok word) h = interned-owned t old.limits (map_of old) (map_of new) text word utf8 h
  interned-word (Err fault) h = tt

  interned-short : (reply : Result ℕ Fault) → Interns t old.limits (map_of old) text reply (map_of new) → IfOk reply (λ word. length text ≤ 7 → word ≡ inline_word text)
  interned-short (Ok word) h = owned-short t (map_of new) text word (interned-word (Ok word) h)
  interned-short (Err fault) h = tt

  interned-lends : (reply : Result ℕ Fault) → Interns t old.limits (map_of old) text reply (map_of new) → IfOk reply (λ word. 7 < length text → IsTextOf t (map_of new) word text)
  interned-lends (Ok word) h = owned-long t (map_of new) text word utf8 (interned-word (Ok word) h)
  interned-lends (Err fault) h = tt

  interned-held : (reply : Result ℕ Fault) → Interns t old.limits (map_of old) text reply (map_of new) → IfOk reply (λ word. IsHeld t (map_of new) word)
  interned-held (Ok word) h = owned-held t (map_of new) text word utf8 (interned-word (Ok word) h)
  interned-held (Err fault) h = tt

  more-listed : (reply : Result ℕ Fault) → Interns t old.limits (map_of old) text reply (map_of new) → IsSoundMap t (map_of old) → IsSoundMap t (map_of new) → (words : List ℕ) → AreHeld t (map_of old) words
      → IfOk reply (λ word. AreHeld t (map_of new) (word ∷ words))
  more-listed (Ok word) h sound now words all = interned-listed t old.limits (map_of old) (map_of new) text word utf8 h sound now words all
  more-listed (Err fault) h sound now words all = tt

  -- what the map's call leaves
  pub interned-done : IsSoundMap t (map_of old) → IsSoundMap t (map_of new) → (reply : Result ℕ Fault) → new.limits ≡ old.limits → Interns t old.limits (map_of old) text reply (map_of new)
      → IfOk reply (λ word. ComesLast old word new) → Interned t old text reply new
  interned-done sound now reply limits interns order = record {
    limits = limits;
    interns = interns;
    word = interned-word reply interns;
    short = interned-short reply interns;
    lends = interned-lends reply interns;
    held = interned-held reply interns;
    listed = more-listed reply interns sound now;
    keeps = λ other. grows-keeps t (map_of old) (map_of new) other (interns-grow t old.limits (map_of old) (map_of new) text reply other interns);
    apart = one-text-each t (map_of new) now;
    once = record {
      given = held-given t (map_of new) now;
      fresh = λ ticket. interns-fresh t old.limits (map_of old) (map_of new) text reply ticket now interns;
    };
    order = order;
  }

-- the same about one or two other words
module _ (t : Tables) (old : Kept) (text : List ℕ) (new : Kept) (utf8 : IsUtf8 text) where
  pub interned-own : (reply : Result ℕ Fault) → Interned t old text reply new → IfOk reply (λ word. IsWordOf t (map_of new) text word)
  interned-own (Ok word) done = own-word t (map_of new) text word utf8 done.word
  interned-own (Err fault) done = tt

  pub interned-same : (reply : Result ℕ Fault) → Interned t old text reply new
      → IfOk reply (λ word. (other : ℕ) (also : List ℕ) → IsWordOf t (map_of old) also other → (word ≡ other) ↔ (text ≡ also))
  interned-same (Ok word) done = same-word t (map_of old) (map_of new) done.keeps done.apart text word utf8 done.word
  interned-same (Err fault) done = tt

  pub interned-both : (reply : Result ℕ Fault) → Interned t old text reply new → IsSoundMap t (map_of old) → IfOk reply (λ word. (other : ℕ) → IsHeld t (map_of old) other → AreBothHeld t (map_of new) word other)
  interned-both (Ok word) done sound = both-held t (map_of old) (map_of new) word sound done.listed
  interned-both (Err fault) done sound = tt

-- ---- cloning

clones-held : (t : Tables) (limits : Bounds) (m : InternMap) (word : ℕ) (outcome : Result ℕ Fault) (new : InternMap) → Clones t limits m word outcome new → IsHeld t m word
unfolding IsHeld
clones-held t limits m word outcome new (inl x) = inl x.0
clones-held t limits m word outcome new (inr x) = inr x.1.0

module _ (t : Tables) (old : Kept) (word : ℕ) (new : Kept) (sound : IsSoundMap t (map_of old)) where
  some-held : (outcome : Result ℕ Fault) → Clones t old.limits (map_of old) word outcome (map_of new) → IfOk (in_some outcome) (λ clone. IsSome clone ↔ IsHeld t (map_of old) word)
  some-held (Ok own) h = (λ _. clones-held t old.limits (map_of old) word (Ok own) (map_of new) h, λ _. refl)
  some-held (Err fault) h = tt

  some-refused : (outcome : Result ℕ Fault) → Clones t old.limits (map_of old) word outcome (map_of new) → IfErr (in_some outcome) (λ _. IsHeld t (map_of old) word)
  some-refused (Ok own) h = tt
  some-refused (Err fault) h = clones-held t old.limits (map_of old) word (Err fault) (map_of new) h

  some-there : (outcome : Result ℕ Fault) → in_some outcome ≡ Ok None → new ≡ old
  some-there (Ok own) none = cc
  some-there (Err fault) none = cc

  some-same : (outcome : Result ℕ Fault) → Clones t old.limits (map_of old) word outcome (map_of new) → IfOk (in_some outcome) (λ clone. IfSome clone (λ own. own ≡ word))
  some-same (Ok own) h = cloned-word t old.limits (map_of old) (map_of new) word (Ok own) h
  some-same (Err fault) h = tt

  some-listed : (outcome : Result ℕ Fault) → Clones t old.limits (map_of old) word outcome (map_of new) → (words : List ℕ) → AreHeld t (map_of old) words
      → IfOk (in_some outcome) (λ clone. IfSome clone (λ own. AreHeld t (map_of new) (own ∷ words)))
  some-listed (Ok own) h words all = cloned-listed t old.limits (map_of old) (map_of new) word (Ok own) h sound words all
  some-listed (Err fault) h words all = tt

  -- what the map's call leaves
  pub cloned-done : IsSoundMap t (map_of new) → (outcome : Result ℕ Fault) → new.limits ≡ old.limits → Clones t old.limits (map_of old) word outcome (map_of new)
      → tickets_of new.pairs ≡ tickets_of old.pairs → Cloned t old word (in_some outcome) new
  cloned-done now outcome limits clones order = record {
    limits = limits;
    held = some-held outcome clones;
    refused = some-refused outcome clones;
    unheld = some-there outcome;
    clones = inl (outcome, clones, refl);
    same = some-same outcome clones;
    listed = some-listed outcome clones;
    keeps = λ other. grows-keeps t (map_of old) (map_of new) other (clones-grow t old.limits (map_of old) (map_of new) word outcome other clones);
    apart = one-text-each t (map_of new) now;
    order = order;
  }

-- nothing changes where the word isn't held
pub cloned-none : (t : Tables) (old : Kept) (word : ℕ) → IsSoundMap t (map_of old) → ¬ (IsHeld t (map_of old) word) → Cloned t old word (Ok None) old
cloned-none t old word sound not = record {
  limits = refl;
  held = (λ some. absurd (false≢true some), λ held. absurd (not held));
  refused = tt;
  unheld = λ _. refl;
  clones = inr (not, refl, refl);
  same = tt;
  listed = λ words all. tt;
  keeps = λ other. grows-keeps t (map_of old) (map_of old) other (grows-same (map_of old) (map_of old) other refl);
  apart = one-text-each t (map_of old) sound;
  order = refl;
}

-- ---- giving

gives-held : (t : Tables) (limits : Bounds) (m : InternMap) (word : ℕ) (new : InternMap) → Gives t limits m word new → IsHeld t m word
unfolding IsHeld
gives-held t limits m word new (inl x) = inl x.0
gives-held t limits m word new (inr x) = inr x.1.0

module _ (t : Tables) (old : Kept) (word : ℕ) (new : Kept) (sound : IsSoundMap t (map_of old)) where
  given-listed : (given : Bool) → GivesIfHeld t old.limits (map_of old) word given (map_of new) → (before after : List ℕ)
      → AreHeld t (map_of old) (before ++ word ∷ after) → AreHeld t (map_of new) (before ++ after)
  given-listed given (inl x) = gives-listed t old.limits (map_of old) (map_of new) word x.0 sound
  given-listed given (inr x) = λ before after all. absurd (x.0 (listed-held t (map_of old) (map_of old) word before after all))

  given-keeps : (given : Bool) → GivesIfHeld t old.limits (map_of old) word given (map_of new) → (other : ℕ) → (other ≢ word) ⊎ IsHeld t (map_of new) other → KeepsWord t (map_of old) (map_of new) other
  given-keeps given (inl x) = gives-keeps t old.limits (map_of old) (map_of new) word x.0 sound
  given-keeps given (inr x) = λ other _. grows-keeps t (map_of old) (map_of new) other (grows-same (map_of old) (map_of new) other x.2)

  given-held : (given : Bool) → GivesIfHeld t old.limits (map_of old) word given (map_of new) → IsTrue given ↔ IsHeld t (map_of old) word
  given-held given (inl x) = (λ _. gives-held t old.limits (map_of old) word (map_of new) x.0, λ _. x.1)
  given-held given (inr x) = (λ yes. absurd (false≢true (sym x.1 ∙ yes)), λ held. absurd (x.0 held))

  -- what the map's call leaves
  pub given-done : IsSoundMap t (map_of new) → (given : Bool) → new.limits ≡ old.limits → (given ≡ false → new ≡ old) → GivesIfHeld t old.limits (map_of old) word given (map_of new) → GoesFrom old word new
      → Given t old word given new
  given-done now given limits unheld gives order = record {
    limits = limits;
    held = given-held given gives;
    unheld = unheld;
    gives = gives;
    listed = given-listed given gives;
    keeps = given-keeps given gives;
    apart = one-text-each t (map_of new) now;
    order = order;
  }
