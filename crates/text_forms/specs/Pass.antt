-- One pass over the entries of a bucket, in the order of its list: how each was asked, what was answered, what the pass
-- finds, and what is left.
use Rattle.std.specs.Prelude.{◌≡◌, ◌≢◌, ℕ, List, [], ◌∷◌, Option, None, Some}

-- What was asked of an entry, and answered: `add` gave a share, found it full or found it dying; `dying` said that it is gone or that it stays.
pub data PassReply (S : Type 0) : Type 0 where
  added : S → PassReply S
  full : PassReply S
  died : PassReply S
  gone : PassReply S
  stays : PassReply S

-- The replies are one for each of these texts, in order, and each was asked as a pass asks: by `add` if its text is
-- wanted, until one was added or full, and all others by `dying`. A sweep wants none.
abbrev pub Asked : {S : Type 0} → Option (List ℕ) → List (List ℕ) → List (PassReply S) → Type 0
Asked wanted [] [] = Unit {0}
Asked wanted (text ∷ texts) (added share ∷ replies) = (wanted ≡ Some text) × Asked None texts replies
Asked wanted (text ∷ texts) (full ∷ replies) = (wanted ≡ Some text) × Asked None texts replies
Asked wanted (text ∷ texts) (died ∷ replies) = (wanted ≡ Some text) × Asked wanted texts replies
Asked wanted (text ∷ texts) (gone ∷ replies) = (wanted ≢ Some text) × Asked wanted texts replies
Asked wanted (text ∷ texts) (stays ∷ replies) = (wanted ≢ Some text) × Asked wanted texts replies
Asked wanted texts replies = ⊥

-- what a pass finds: a share of an entry of the text, an entry of the text that is full, or none
pub data Outcome (S : Type 0) : Type 0 where
  found : S → Outcome S
  found_full : Outcome S
  absent : Outcome S

-- what a pass with these replies finds
abbrev pub outcome : {S : Type 0} → List (PassReply S) → Outcome S
outcome [] = absent
outcome (added share ∷ replies) = found share
outcome (full ∷ replies) = found_full
outcome (died ∷ replies) = outcome replies
outcome (gone ∷ replies) = outcome replies
outcome (stays ∷ replies) = outcome replies

-- the entries not answered as dying, in order
abbrev pub kept : {E S : Type 0} → List E → List (PassReply S) → List E
kept [] replies = []
kept (e ∷ es) [] = []
kept (e ∷ es) (added share ∷ replies) = e ∷ kept es replies
kept (e ∷ es) (full ∷ replies) = e ∷ kept es replies
kept (e ∷ es) (died ∷ replies) = kept es replies
kept (e ∷ es) (gone ∷ replies) = kept es replies
kept (e ∷ es) (stays ∷ replies) = e ∷ kept es replies
