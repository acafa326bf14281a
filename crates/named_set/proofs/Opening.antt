-- The rows of a set, from the last to the first.
use Rattle.std.proofs.Common.{◌≡◌, ℕ, suc, List, [], ◌∷◌, ◌++◌, length, map, take, slice_index_or, refl, ap, sym, ◌∙◌, subst}
use Rattle.std.specs.List.{AllByRecursion}
use Rattle.counted_cell.specs.declared.cell_log.CellLog.{CellLog}
use Rattle.named_set.specs.Names.{AreFirst, IsEmpty}

abbrev name_of : CellLog → ℕ
name_of l = l.name

last_of : (xs : List CellLog) (x : CellLog) (rows : List ℕ) → map name_of (xs ++ x ∷ []) ≡ take (length (xs ++ x ∷ [])) rows → (map name_of xs ≡ take (length xs) rows) × (x.name ≡ slice_index_or rows (length xs) 0)
last_of [] x [] e = absurd (cc e)
last_of [] x (r ∷ rows) e = (refl, cc e)
last_of (y ∷ xs) x [] e = absurd (cc e)
last_of (y ∷ xs) x (r ∷ rows) e =
    let rest = last_of xs x rows (cc e) in
    let head : y.name ≡ r = cc e in
    (cc (head, rest.0), rest.1)

each_front : (xs : List CellLog) (x : CellLog) → AllByRecursion IsEmpty (xs ++ x ∷ []) → AllByRecursion IsEmpty xs × IsEmpty x
each_front [] x all = (tt, all.0)
each_front (y ∷ xs) x all = (let rest = each_front xs x all.1 in ((all.0, rest.0), rest.1))

-- without the last log
pub popped : (ys xs : List CellLog) (x : CellLog) (names : List ℕ) → ys ≡ xs ++ x ∷ [] → AreFirst names ys → AreFirst names xs × (x.name ≡ slice_index_or names (length xs) 0) × IsEmpty x
popped ys xs x names is first =
    let all = subst (λ (zs : List CellLog). AreFirst names zs) is first in
    let a = last_of xs x names all.named in
    let b = each_front xs x all.empty in
    (record { named = a.0; empty = b.0 }, a.1, b.1)

take_all : (xs : List ℕ) → xs ≡ take (length xs) xs
take_all [] = refl
take_all (x ∷ xs) = ap (λ ys. x ∷ ys) (take_all xs)

length_names : (xs : List CellLog) → length (map name_of xs) ≡ length xs
length_names [] = refl
length_names (x ∷ xs) = ap suc (length_names xs)

-- at first all are there
pub all_names : (xs : List CellLog) (names : List ℕ) → names ≡ map (λ (l : CellLog). l.name) xs → AllByRecursion IsEmpty xs → AreFirst names xs × (length names ≡ length xs)
all_names xs names is empty =
    let n : length names ≡ length xs = ap length is ∙ length_names xs in
    (record { named = sym is ∙ (take_all names ∙ ap (λ (k : ℕ). take k names) n); empty = empty }, n)
