-- What an atom and a place of a list hold, whatever set they are of.
use Rattle.std.specs.Prelude.{◌≡◌, ◌<◌, ℕ, List, length, Option, None}
use Rattle.text_forms.specs.Tables.{Tables, entry_hash, form_of_text, text_at, IsStaticIndex}
use Rattle.text_forms.specs.declared.static_sets.TextForm.TheVariants as form
use Rattle.text_forms.specs.Word.{inline_word, static_word, IsInlineText}
use Rattle.set_atoms.specs.AtomValue.{AtomValue}
use Rattle.set_atoms.specs.declared.form.Repr.{Repr}
use Rattle.set_atoms.specs.declared.form.Repr.TheVariants.{Inline, Static, Dynamic}

-- the text, the word, and the bits: those of the share of a dynamic one
abbrev pub value_of_form : {Beside Share : Type 0} → Tables → (Share → AtomValue) → Repr Beside Share → AtomValue
value_of_form t atom_of (Inline text) = record { text = text; word = inline_word text; bits = None }
value_of_form t atom_of (Static index) = record { text = text_at t index; word = static_word index; bits = None }
value_of_form t atom_of (Dynamic beside share) = atom_of share

-- a share is one that an atom keeps, and its word is one that a dynamic text may have
abbrev pub IsOwnShare : {Share : Type 0} → (Share → AtomValue) → (Share → Type 0) → (List ℕ → Option ℕ → ℕ → Type 0) → Share → Type 0
IsOwnShare atom_of is_kept is_ticket share = is_kept share × is_ticket (atom_of share).text (atom_of share).bits (atom_of share).word

-- the text is one of this form; a dynamic one's share is its own, and what is beside it is of the text's hash
abbrev pub IsOwnForm : {Beside Share : Type 0} → Tables → (Share → AtomValue) → (Beside → ℕ → Type 0) → (Share → Type 0) → (List ℕ → Option ℕ → ℕ → Type 0) → Repr Beside Share → Type 0
IsOwnForm t atom_of is_beside is_kept is_ticket (Inline text) = IsInlineText text
IsOwnForm t atom_of is_beside is_kept is_ticket (Static index) = IsStaticIndex t index × (index < length t.atoms)
IsOwnForm t atom_of is_beside is_kept is_ticket (Dynamic beside share) = (form_of_text t (atom_of share).text ≡ form.Dynamic (entry_hash t (atom_of share).text)) × is_beside beside (entry_hash t (atom_of share).text) × IsOwnShare atom_of is_kept is_ticket share
