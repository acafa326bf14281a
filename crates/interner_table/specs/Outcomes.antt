-- What a call of a table leaves: old is the table before the call, new the one after it.
use Rattle.std.specs.Prelude.{◌≡◌, ◌≢◌, ℕ, ◌<◌, ◌≤◌, ◌⊎◌, ◌↔◌, Bool, false, IsTrue, List, ◌∷◌, ◌++◌, length, Option, None, Result, Ok, IfErr, IfOk, IfSome, IsSome}
use Rattle.interner_table.specs.Kept.{Kept, map_of, tickets_of}
use Rattle.interner_table.specs.Order.{ComesLast, GoesFrom}
use Rattle.interner_table.specs.Table.{AreHeld, ClonesIfHeld, GivesIfHeld, GivesOnce, HasOneTextEach, HasWord, Interns, IsHeld, IsTextOf, KeepsWord}
use Rattle.text_forms.specs.declared.faults.Fault.{Fault}
use Rattle.text_forms.specs.Tables.{Tables}
use Rattle.text_forms.specs.Word.{inline_word}

-- The word of a text, with one holder more if it is a ticket.
pub record Interned (t : Tables) (old : Kept) (text : List ℕ) (reply : Result ℕ Fault) (new : Kept) : Type 0 where
  -- The limits stay.
  pub limits : new.limits ≡ old.limits
  -- It is the word that the text's form fixes, or the map's call.
  pub interns : Interns t old.limits (map_of old) text reply (map_of new)
  -- The word is the text's.
  pub word : IfOk reply (λ word. HasWord t (map_of new) text word)
  -- That of a short text is its inline word.
  pub short : IfOk reply (λ word. length text ≤ 7 → word ≡ inline_word text)
  -- For a longer text, the word lends that text.
  pub lends : IfOk reply (λ word. 7 < length text → IsTextOf t (map_of new) word text)
  -- It is held.
  pub held : IfOk reply (λ word. IsHeld t (map_of new) word)
  -- A caller may still give what it listed, and this word once more.
  pub listed : (words : List ℕ) → AreHeld t (map_of old) words → IfOk reply (λ word. AreHeld t (map_of new) (word ∷ words))
  -- Each word keeps what it has.
  pub keeps : (other : ℕ) → KeepsWord t (map_of old) (map_of new) other
  -- No two texts have one word, and no text has two.
  pub apart : HasOneTextEach t (map_of new)
  -- No ticket is given twice.
  pub once : GivesOnce (map_of old) (map_of new)
  -- A new ticket goes to the end, and no other moves.
  pub order : IfOk reply (λ word. ComesLast old word new)

-- One holder more of a word, if it is held.
pub record Cloned (t : Tables) (old : Kept) (word : ℕ) (reply : Result (Option ℕ) Fault) (new : Kept) : Type 0 where
  -- The limits stay.
  pub limits : new.limits ≡ old.limits
  -- Unless the call is refused, a word is returned exactly if it was held.
  pub held : IfOk reply (λ clone. IsSome clone ↔ IsHeld t (map_of old) word)
  -- Only a word that is held is refused.
  pub refused : IfErr reply (λ _. IsHeld t (map_of old) word)
  -- A word that isn't held changes nothing.
  pub unheld : reply ≡ Ok None → new ≡ old
  -- It is the map's call, or nothing changes.
  pub clones : ClonesIfHeld t old.limits (map_of old) word reply (map_of new)
  -- The word that is returned is the same.
  pub same : IfOk reply (λ clone. IfSome clone (λ own. own ≡ word))
  -- A caller may still give what it listed, and this word once more.
  pub listed : (words : List ℕ) → AreHeld t (map_of old) words → IfOk reply (λ clone. IfSome clone (λ own. AreHeld t (map_of new) (own ∷ words)))
  -- Each word keeps what it has.
  pub keeps : (other : ℕ) → KeepsWord t (map_of old) (map_of new) other
  -- No two texts have one word, and no text has two.
  pub apart : HasOneTextEach t (map_of new)
  -- The order stays.
  pub order : tickets_of new.pairs ≡ tickets_of old.pairs

-- One holder less of a word, if it is held.
pub record Given (t : Tables) (old : Kept) (word : ℕ) (given : Bool) (new : Kept) : Type 0 where
  -- The limits stay.
  pub limits : new.limits ≡ old.limits
  -- The word is given exactly if it was held.
  pub held : IsTrue given ↔ IsHeld t (map_of old) word
  -- A word that isn't held changes nothing.
  pub unheld : given ≡ false → new ≡ old
  -- It is the map's call, or nothing changes.
  pub gives : GivesIfHeld t old.limits (map_of old) word given (map_of new)
  -- A caller may still give what it listed, but this word once less.
  pub listed : (before after : List ℕ) → AreHeld t (map_of old) (before ++ word ∷ after) → AreHeld t (map_of new) (before ++ after)
  -- Any other word keeps what it has, and so does this one if it is still held.
  pub keeps : (other : ℕ) → (other ≢ word) ⊎ IsHeld t (map_of new) other → KeepsWord t (map_of old) (map_of new) other
  -- No two texts have one word, and no text has two.
  pub apart : HasOneTextEach t (map_of new)
  -- The last ticket takes the place of one that is taken out.
  pub order : GoesFrom old word new
