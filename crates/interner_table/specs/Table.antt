-- What the calls of a table do, as calls of the map that it is.
use Rattle.std.specs.Prelude.{◌≡◌, ℕ, ◌<◌, ◌≤◌, ◌⊎◌, ◌↔◌, Bool, true, false, List, [], ◌∷◌, Option, None, Some, Result, Ok, Err}
use Rattle.std.specs.Str.{IsUtf8}
use Rattle.text_forms.specs.Bounds.{Bounds}
use Rattle.text_forms.specs.declared.faults.Fault.{Fault}
use Rattle.text_forms.specs.declared.static_sets.TextForm.TheVariants as form
use Rattle.text_forms.specs.Map.{Holding, InternMap, IsHeldTicket, MapReply, Intern, Clone, Give, MayReply, MayAdd}
use Rattle.text_forms.specs.Tables.{Tables, form_of_text, fixed_word, IsStaticTextWord}
use Rattle.text_forms.specs.Times.{times}
use Rattle.text_forms.specs.Word.{static_word, ticket_of, IsInlineWord, IsTicket}

-- the word that the map's reply gives
abbrev pub as_word : MapReply → Result ℕ Fault
as_word (Ok had) = Ok had.ticket
as_word (Err fault) = Err fault

-- one more holder of a text that is held, or a refusal
abbrev pub Adds : Bounds → InternMap → List ℕ → Holding → Result ℕ Fault → InternMap → Type 0
Adds limits m text had result new = (reply : MapReply) × MayAdd limits m text had reply new × (result ≡ as_word reply)

-- interning, by the word that the text's form fixes: that word, and nothing changes; or the map's call
abbrev pub InternsBy : Tables → Bounds → InternMap → List ℕ → Option ℕ → Result ℕ Fault → InternMap → Type 0
InternsBy t limits m text (Some word) result new = (result ≡ Ok word) × (new ≡ m)
InternsBy t limits m text None result new = (reply : MapReply) × MayReply t limits m (Intern text) reply new × (result ≡ as_word reply)

-- interning: if the text's form fixes its word, that is the reply and nothing changes; any other text is the map's call
abbrev pub Interns : Tables → Bounds → InternMap → List ℕ → Result ℕ Fault → InternMap → Type 0
Interns t limits m text result new = InternsBy t limits m text (fixed_word (form_of_text t text)) result new

-- the text of a static word, or of a ticket that is held
abbrev pub IsTextOf : Tables → InternMap → ℕ → List ℕ → Type 0
IsTextOf t m word text =
    ((index : ℕ) × (form_of_text t text ≡ form.Static index) × (word ≡ static_word index))
    ⊎ ((holders : ℕ) × (m.held text ≡ Some (record { ticket = word; holders = holders })))

-- ---- words that are held

-- the word of a text whose form fixes it
abbrev pub IsFixedWord : Tables → ℕ → Type 0
IsFixedWord t word = IsInlineWord word ⊎ IsStaticTextWord t word

-- the word is one that a text's form fixes, or a ticket that the map holds
unfoldable pub IsHeld : Tables → InternMap → ℕ → Type 0
IsHeld t m word = IsFixedWord t word ⊎ IsHeldTicket m word

-- At least n hold the word; a word that a text's form fixes is held by any number.
abbrev pub IsHeldBy : Tables → InternMap → ℕ → ℕ → Type 0
IsHeldBy t m word n =
    (n ≡ 0) ⊎ IsFixedWord t word
    ⊎ ((text : List ℕ) × (holders : ℕ) × (m.held text ≡ Some (record { ticket = word; holders = holders })) × (n ≤ holders))

-- Each word can be given as often as it is listed. A caller lists what it interned and cloned and hasn't given.
abbrev pub AreHeld : Tables → InternMap → List ℕ → Type 0
AreHeld t m words = (word : ℕ) → IsHeldBy t m word (times word words)

-- Each of two words can be given back even after the other; one word twice, if they are one.
unfoldable pub AreBothHeld : Tables → InternMap → ℕ → ℕ → Type 0
AreBothHeld t m word other = AreHeld t m (word ∷ other ∷ [])

-- cloning a word that is held: nothing changes at a fixed word, and a ticket is the map's call
abbrev pub Clones : Tables → Bounds → InternMap → ℕ → Result ℕ Fault → InternMap → Type 0
Clones t limits m word result new =
    (IsFixedWord t word × (result ≡ Ok word) × (new ≡ m))
    ⊎ ((reply : MapReply) × MayReply t limits m (Clone word) reply new × (result ≡ as_word reply))

-- giving a word that is held: nothing changes at a fixed word, and a ticket is the map's call
abbrev pub Gives : Tables → Bounds → InternMap → ℕ → InternMap → Type 0
Gives t limits m word new =
    (IsFixedWord t word × (new ≡ m))
    ⊎ ((reply : MapReply) × MayReply t limits m (Give word) reply new)

-- the same word or refusal, as an answer that might have none
abbrev pub in_some : Result ℕ Fault → Result (Option ℕ) Fault
in_some (Ok word) = Ok (Some word)
in_some (Err fault) = Err fault

-- cloning any number: as `Clones` says if it is held; otherwise None, and nothing changes
abbrev pub ClonesIfHeld : Tables → Bounds → InternMap → ℕ → Result (Option ℕ) Fault → InternMap → Type 0
ClonesIfHeld t limits m word result new =
    ((outcome : Result ℕ Fault) × Clones t limits m word outcome new × (result ≡ in_some outcome))
    ⊎ (¬ (IsHeld t m word) × (result ≡ Ok None) × (new ≡ m))

-- giving any number: as `Gives` says if it is held; otherwise false, and nothing changes
abbrev pub GivesIfHeld : Tables → Bounds → InternMap → ℕ → Bool → InternMap → Type 0
GivesIfHeld t limits m word given new =
    (Gives t limits m word new × (given ≡ true)) ⊎ (¬ (IsHeld t m word) × (given ≡ false) × (new ≡ m))

-- ---- whose word it is

abbrev pub HasWordBy : InternMap → List ℕ → Option ℕ → ℕ → Type 0
HasWordBy m text (Some own) word = word ≡ own
HasWordBy m text None word = (holders : ℕ) × (m.held text ≡ Some (record { ticket = word; holders = holders }))

-- the text has the word: the one that its form fixes, or the ticket that it is held with
abbrev pub HasWord : Tables → InternMap → List ℕ → ℕ → Type 0
HasWord t m text word = HasWordBy m text (fixed_word (form_of_text t text)) word

-- a text of UTF-8 that has the word
unfoldable pub IsWordOf : Tables → InternMap → List ℕ → ℕ → Type 0
IsWordOf t m text word = IsUtf8 text × HasWord t m text word

-- what a word has in m, it has in new: being held, the text that it lends, whose word it is
pub record KeepsWord (t : Tables) (m new : InternMap) (word : ℕ) : Type 0 where
  pub held : IsHeld t m word → IsHeld t new word
  pub text : (text : List ℕ) → IsTextOf t m word text → IsTextOf t new word text
  pub owned : (text : List ℕ) → HasWord t m text word → HasWord t new text word

-- Two words that texts have at once are equal exactly if the texts are.
abbrev pub HasOneTextEach : Tables → InternMap → Type 0
HasOneTextEach t m = (text other : List ℕ) (word also : ℕ) → IsUtf8 text → IsUtf8 other → HasWord t m text word → HasWord t m other also → (word ≡ also) ↔ (text ≡ other)

-- ---- no ticket comes twice

-- The ticket is of a serial that its bucket has given.
abbrev pub IsGivenTicket : InternMap → ℕ → Type 0
IsGivenTicket m ticket = (serial : ℕ) × (bucket : ℕ) × IsTicket serial bucket × (ticket_of serial bucket ≡ ticket) × (serial ≤ m.last bucket)

-- The ticket is of a serial above the last that its bucket has given.
abbrev pub IsNewTicket : InternMap → ℕ → Type 0
IsNewTicket m ticket = (serial : ℕ) × (bucket : ℕ) × IsTicket serial bucket × (ticket_of serial bucket ≡ ticket) × (m.last bucket < serial)

-- Each ticket that new holds is given there, and is held in m or new to it.
pub record GivesOnce (m new : InternMap) : Type 0 where
  pub given : (ticket : ℕ) → IsHeldTicket new ticket → IsGivenTicket new ticket
  pub fresh : (ticket : ℕ) → IsHeldTicket new ticket → IsHeldTicket m ticket ⊎ IsNewTicket m ticket
