-- What a table keeps, and the map that it shows.
use Rattle.std.specs.Prelude.{◌≡◌, ℕ, ◌^◌, ◌<◌, ◌≤◌, List, map, length, slice_get, slice_index, None, Some, String, string_bytes}
use Rattle.std.specs.List.{sum_by}
use Rattle.std.specs.Map.{lookup}
use Rattle.std.specs.Str.{bytes_eq}
use Rattle.text_forms.specs.Bounds.{Bounds}
use Rattle.text_forms.specs.Layout.{most_buckets}
use Rattle.text_forms.specs.Map.{Holding, InternMap}
use Rattle.text_forms.specs.Tables.{Tables, bucket_of, form_of_text, fixed_word}
use Rattle.text_forms.specs.Word.{ticket_of, IsTicket}

-- a dynamic text, with its ticket and its holders
abbrev pub Pair : Type 0
Pair = List ℕ × Holding

-- a table: its limits, each bucket's last serial, and the dynamic texts that are held, in the table's order
pub record Kept : Type 0 where
  pub limits : Bounds
  pub lasts : List ℕ  -- each bucket's last serial
  pub pairs : List Pair  -- of each dynamic text that is held, in the table's order

-- the map that a table is
abbrev pub map_of : Kept → InternMap
map_of kept = record { buckets = length kept.lasts; held = λ text. lookup (bytes_eq text) kept.pairs; last = λ bucket. slice_index kept.lasts bucket }

-- the entries of a map with text keys, as pairs
abbrev pub pairs_of : {Y : Type 0} → List (String Y × Holding) → List Pair
pairs_of entries = map (λ entry. (string_bytes entry.0, entry.1)) entries

-- the tickets of these pairs, in their order
abbrev pub tickets_of : List Pair → List ℕ
tickets_of pairs = map (λ pair. pair.1.ticket) pairs

-- ---- what every table keeps to

-- The text is dynamic, its ticket is of a serial that its bucket has given, and someone holds it.
pub record IsGiven (t : Tables) (buckets : ℕ) (last : ℕ → ℕ) (text : List ℕ) (had : Holding) : Type 0 where
  pub dynamic : fixed_word (form_of_text t text) ≡ None
  pub serial : ℕ
  pub right : IsTicket serial (bucket_of t buckets text)
  pub given : serial ≤ last (bucket_of t buckets text)
  pub is : had.ticket ≡ ticket_of serial (bucket_of t buckets text)
  pub held : 0 < had.holders

-- There are 2 ^ bits buckets. The tickets are in a list of their own, each at the place of its text, and the bytes of the
-- texts are counted.
pub record IsKeptTable (t : Tables) (bits : ℕ) (lasts : List ℕ) (pairs : List Pair) (tickets : List ℕ) (bytes : ℕ) : Type 0 where
  pub buckets : length lasts ≡ 2 ^ bits
  pub few : length lasts ≤ most_buckets
  pub given : (at : ℕ) (pair : Pair) → slice_get pairs at ≡ Some pair → IsGiven t (length lasts) (slice_index lasts) pair.0 pair.1
  pub short : (at : ℕ) (pair : Pair) → slice_get pairs at ≡ Some pair → length pair.0 < 2 ^ 64
  pub index : tickets ≡ tickets_of pairs
  pub counted : bytes ≡ sum_by (λ pair. length pair.0) pairs

-- Each text that the map holds is given, and different texts have different tickets.
pub record IsSoundMap (t : Tables) (m : InternMap) : Type 0 where
  pub given : (text : List ℕ) (had : Holding) → m.held text ≡ Some had → IsGiven t m.buckets m.last text had
  pub apart : (text other : List ℕ) (had also : Holding) → m.held text ≡ Some had → m.held other ≡ Some also → had.ticket ≡ also.ticket → text ≡ other
