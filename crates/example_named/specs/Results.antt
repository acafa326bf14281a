-- Results without a fault.
use Rattle.std.specs.Prelude.{List, [], ◌∷◌, Result, Ok}

-- each of the values, as the result of a call that returned it
abbrev pub oks : {T E : Type 0} → List T → List (Result T E)
oks [] = []
oks (value ∷ values) = Ok value ∷ oks values
