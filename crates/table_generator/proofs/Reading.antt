-- A table text is read in one way.
use Rattle.std.proofs.Common.{◌≡◌, ◌≢◌, ℕ, ◌^◌, ◌<◌, List, [], ◌∷◌, ◌++◌, length, sym, refl, ap, ◌∙◌, arith, suc, get_or, codes, decimal, append_assoc}
use Rattle.std.specs.List.{All, flat_map}
use Rattle.std.proofs.lemmas.Fmt.{decimal_injective}
use Rattle.std.proofs.lemmas.List.{append_cancel_left, append-nil}
use Rattle.text_forms.specs.Tables.{Tables, IsPerfectTable}
use Rattle.table_generator.specs.TableText.{key_line, disp_line, atom_line, atom_lines, hex_digits, HasNoFeed, ReadsDisps, ReadsAtoms, SpellsTables, SpellsPerfectTables}
use Rattle.text_forms.proofs.Cuts.{first_byte}
use Rattle.table_generator.proofs.HexLemmas.{hex_lacks, hex_injective}
use Rattle.table_generator.proofs.LineLemmas.{key_words, disp_words, atom_words, key_flat, disp_flat, atom_flat, key_lacks, disp_lacks, atom_lacks, decimal_lacks}

-- ---- one line

pub key_once : (key other : ℕ) (rest more : List ℕ) → key < 2 ^ 64 → other < 2 ^ 64 → key_line key ++ rest ≡ key_line other ++ more → (key ≡ other) × (rest ≡ more)
key_once key other rest more p q e =
    let cut = first_byte 10 (key_words key) (key_words other) rest more (key_lacks key p) (key_lacks other q) (sym (key_flat key rest) ∙ e ∙ key_flat other more) in
    (decimal_injective key other p q (append_cancel_left (codes "key ") _ _ cut.0), cut.1)

pub disp_once : (a b : ℕ × ℕ) (rest more : List ℕ) → a.0 < 2 ^ 32 → a.1 < 2 ^ 32 → b.0 < 2 ^ 32 → b.1 < 2 ^ 32 → disp_line a ++ rest ≡ disp_line b ++ more → (a ≡ b) × (rest ≡ more)
disp_once a b rest more p q r s e =
    let line = first_byte 10 (disp_words a) (disp_words b) rest more (disp_lacks a p q) (disp_lacks b r s) (sym (disp_flat a rest) ∙ e ∙ disp_flat b more) in
    let cut = first_byte 32 (decimal a.0) (decimal b.0) (decimal a.1) (decimal b.1) (decimal_lacks 32 a.0 (omega arith) (omega (arith, p))) (decimal_lacks 32 b.0 (omega arith) (omega (arith, r)))
    (append_cancel_left (codes "disp ") _ _ line.0) in
    let first : a.0 ≡ b.0 = decimal_injective a.0 b.0 (omega (arith, p)) (omega (arith, r)) cut.0 in
    let second : a.1 ≡ b.1 = decimal_injective a.1 b.1 (omega (arith, q)) (omega (arith, s)) cut.1 in
    (ap (λ n. (n, a.1)) first ∙ ap (λ n. (b.0, n)) second, line.1)

pub atom_once : (hash other : ℕ) (text word rest more : List ℕ) → hash < 2 ^ 64 → other < 2 ^ 64 → HasNoFeed text → HasNoFeed word → atom_line hash text ++ rest ≡ atom_line other word ++ more
    → (hash ≡ other) × (text ≡ word) × (rest ≡ more)
atom_once hash other text word rest more p q none lone e =
    let line = first_byte 10 (atom_words hash text) (atom_words other word) rest more (atom_lacks hash text none) (atom_lacks other word lone) (sym (atom_flat hash text rest) ∙ e ∙ atom_flat other word more) in
    let cut = first_byte 32 (hex_digits 16 hash) (hex_digits 16 other) text word (hex_lacks 32 16 hash (omega arith)) (hex_lacks 32 16 other (omega arith)) (append_cancel_left (codes "atom ") _ _ line.0) in
    (hex_injective hash other p q cut.0, cut.1, line.1)

-- ---- all lines of a kind

-- a line of displacements begins otherwise than that of a text
no_disp : (pair : ℕ × ℕ) (rest : List ℕ) (hashes : List ℕ) (atoms : List (List ℕ)) → disp_line pair ++ rest ≢ atom_lines hashes atoms
no_disp pair rest [] atoms e = absurd (omega (arith, ap length e))
no_disp pair rest (hash ∷ hashes) [] e = absurd (omega (arith, ap length e))
no_disp pair rest (hash ∷ hashes) (atom ∷ atoms) e = absurd (omega (arith, ap (λ v. get_or v 0 0) e))

pub disps_once : (read disps : List (ℕ × ℕ)) (rest : List ℕ) (hashes : List ℕ) (atoms : List (List ℕ))
    → All (λ pair. (pair.0 < 2 ^ 32) × (pair.1 < 2 ^ 32)) read → All (λ pair. (pair.0 < 2 ^ 32) × (pair.1 < 2 ^ 32)) disps
    → ((pair : ℕ × ℕ) (more : List ℕ) → pair.0 < 2 ^ 32 → pair.1 < 2 ^ 32 → rest ≢ disp_line pair ++ more)
    → flat_map disp_line read ++ rest ≡ flat_map disp_line disps ++ atom_lines hashes atoms → (read ≡ disps) × (rest ≡ atom_lines hashes atoms)
disps_once [] [] rest hashes atoms p q ends e = (refl, e)
disps_once [] (d ∷ disps) rest hashes atoms p q ends e =
    let small = q 0 d (omega arith) in absurd (ends d (flat_map disp_line disps ++ atom_lines hashes atoms) small.0 small.1 (e ∙ append_assoc (disp_line d) (flat_map disp_line disps) (atom_lines hashes atoms)))
disps_once (r ∷ read) [] rest hashes atoms p q ends e = absurd (no_disp r (flat_map disp_line read ++ rest) hashes atoms (sym (append_assoc (disp_line r) (flat_map disp_line read) rest) ∙ e))
disps_once (r ∷ read) (d ∷ disps) rest hashes atoms p q ends e =
    let a = p 0 r (omega arith) in
    let b = q 0 d (omega arith) in
    let first = disp_once r d (flat_map disp_line read ++ rest) (flat_map disp_line disps ++ atom_lines hashes atoms) a.0 a.1 b.0 b.1
    (sym (append_assoc (disp_line r) (flat_map disp_line read) rest) ∙ e ∙ append_assoc (disp_line d) (flat_map disp_line disps) (atom_lines hashes atoms)) in
    let more = disps_once read disps rest hashes atoms (λ k x h. p (suc k) x (omega (arith, h))) (λ k x h. q (suc k) x (omega (arith, h))) ends first.1 in
    (ap (λ v. v ∷ read) first.0 ∙ ap (λ v. d ∷ v) more.0, more.1)

pub atoms_once : (read_hashes : List ℕ) (read_atoms : List (List ℕ)) (hashes : List ℕ) (atoms : List (List ℕ)) (rest : List ℕ)
    → length read_hashes ≡ length read_atoms → length hashes ≡ length atoms
    → All (λ hash. hash < 2 ^ 64) read_hashes → All (λ hash. hash < 2 ^ 64) hashes → All HasNoFeed read_atoms → All HasNoFeed atoms
    → ((hash : ℕ) (atom more : List ℕ) → hash < 2 ^ 64 → HasNoFeed atom → rest ≢ atom_line hash atom ++ more)
    → atom_lines read_hashes read_atoms ++ rest ≡ atom_lines hashes atoms → (read_hashes ≡ hashes) × (read_atoms ≡ atoms) × (rest ≡ [])
atoms_once [] [] [] [] rest c d p q none lone ends e = (refl, refl, e)
atoms_once [] (t ∷ ts) hashes atoms rest c d p q none lone ends e = absurd (omega (arith, c))
atoms_once (h ∷ hs) [] hashes atoms rest c d p q none lone ends e = absurd (omega (arith, c))
atoms_once [] [] [] (a ∷ atoms) rest c d p q none lone ends e = absurd (omega (arith, d))
atoms_once [] [] (g ∷ hashes) [] rest c d p q none lone ends e = absurd (omega (arith, d))
atoms_once [] [] (g ∷ hashes) (a ∷ atoms) rest c d p q none lone ends e = absurd (ends g a (atom_lines hashes atoms) (q 0 g (omega arith)) (lone 0 a (omega arith)) e)
atoms_once (h ∷ hs) (t ∷ ts) [] atoms rest c d p q none lone ends e = absurd (omega (arith, ap length e))
atoms_once (h ∷ hs) (t ∷ ts) (g ∷ hashes) [] rest c d p q none lone ends e = absurd (omega (arith, d))
atoms_once (h ∷ hs) (t ∷ ts) (g ∷ hashes) (a ∷ atoms) rest c d p q none lone ends e =
    let first = atom_once h g t a (atom_lines hs ts ++ rest) (atom_lines hashes atoms) (p 0 h (omega arith)) (q 0 g (omega arith)) (none 0 t (omega arith)) (lone 0 a (omega arith))
    (sym (append_assoc (atom_line h t) (atom_lines hs ts) rest) ∙ e) in
    let more = atoms_once hs ts hashes atoms rest (omega (arith, c)) (omega (arith, d)) (λ k x l. p (suc k) x (omega (arith, l))) (λ k x l. q (suc k) x (omega (arith, l)))
    (λ k x l. none (suc k) x (omega (arith, l))) (λ k x l. lone (suc k) x (omega (arith, l))) ends first.2 in
    (ap (λ v. v ∷ hs) first.0 ∙ ap (λ v. g ∷ v) more.0, ap (λ v. v ∷ ts) first.1 ∙ ap (λ v. a ∷ v) more.1, more.2)

-- ---- the whole text

-- what was read of a text that spells tables are those tables, and nothing is left
pub read_tables : (text rest behind end : List ℕ) (t read : Tables) → read.key < 2 ^ 64 → text ≡ key_line read.key ++ rest → ReadsDisps rest read.disps behind → ReadsAtoms behind read.hashes read.atoms end
    → SpellsTables text t → (read ≡ t) × (end ≡ [])
read_tables text rest behind end t read small key disps atoms spelled =
    let printed = spelled.0 in
    let first = key_once read.key t.key rest (flat_map disp_line t.disps ++ atom_lines t.hashes t.atoms) small printed.key (sym key ∙ spelled.1) in
    let second = disps_once read.disps t.disps behind t.hashes t.atoms disps.small printed.displacements disps.ends (sym disps.is ∙ first.1) in
    let third = atoms_once read.hashes read.atoms t.hashes t.atoms end atoms.count printed.hashed atoms.small printed.hashes atoms.one_line printed.texts atoms.ends (sym atoms.is ∙ second.1) in (
      ap (λ k. tables k read.disps read.atoms read.hashes) first.0 ∙ ap (λ d. tables t.key d read.atoms read.hashes) second.0
          ∙ ap (λ a. tables t.key t.disps a read.hashes) third.1 ∙ ap (tables t.key t.disps t.atoms) third.0,
      third.2,
    )
  where
    tables : ℕ → List (ℕ × ℕ) → List (List ℕ) → List ℕ → Tables
    tables key disps atoms hashes = record { key = key; disps = disps; atoms = atoms; hashes = hashes }

-- and what was read to the end is spelled
pub spelled_read : (text rest behind end : List ℕ) (read : Tables) → read.key < 2 ^ 64 → text ≡ key_line read.key ++ rest → ReadsDisps rest read.disps behind → ReadsAtoms behind read.hashes read.atoms end → end ≡ []
    → IsPerfectTable read → SpellsPerfectTables text
spelled_read text rest behind end read small key disps atoms ended perfect = (
  read,
  (
    record {
      key = small;
      displaced = perfect.usable.displaced;
      displacements = disps.small;
      listed = perfect.usable.listed;
      texts = atoms.one_line;
      hashed = atoms.count;
      hashes = atoms.small;
    },
    key ∙ ap (λ v. key_line read.key ++ v) (disps.is ∙ ap (λ v. flat_map disp_line read.disps ++ v) (atoms.is ∙ ap (λ v. atom_lines read.hashes read.atoms ++ v) ended ∙ append-nil (atom_lines read.hashes read.atoms))),
  ),
  perfect,
)

-- ---- one line more

pub lines_pushed : (hashes : List ℕ) (atoms : List (List ℕ)) (hash : ℕ) (atom more : List ℕ) → length hashes ≡ length atoms
    → atom_lines hashes atoms ++ (atom_line hash atom ++ more) ≡ atom_lines (hashes ++ (hash ∷ [])) (atoms ++ (atom ∷ [])) ++ more
lines_pushed [] [] hash atom more count = sym (append_assoc (atom_line hash atom) [] more)
lines_pushed [] (a ∷ atoms) hash atom more count = absurd (omega (arith, count))
lines_pushed (h ∷ hashes) [] hash atom more count = absurd (omega (arith, count))
lines_pushed (h ∷ hashes) (a ∷ atoms) hash atom more count =
    append_assoc (atom_line h a) (atom_lines hashes atoms) (atom_line hash atom ++ more)
    ∙ ap (λ v. atom_line h a ++ v) (lines_pushed hashes atoms hash atom more (omega (arith, count)))
    ∙ sym (append_assoc (atom_line h a) (atom_lines (hashes ++ (hash ∷ [])) (atoms ++ (atom ∷ []))) more)

pub atoms_pushed : (text : List ℕ) (hashes : List ℕ) (atoms : List (List ℕ)) (hash : ℕ) (atom rest more : List ℕ) → length hashes ≡ length atoms
    → text ≡ atom_lines hashes atoms ++ rest → rest ≡ atom_line hash atom ++ more
    → text ≡ atom_lines (hashes ++ (hash ∷ [])) (atoms ++ (atom ∷ [])) ++ more
atoms_pushed text hashes atoms hash atom rest more count is line = is ∙ ap (λ v. atom_lines hashes atoms ++ v) line ∙ lines_pushed hashes atoms hash atom more count
