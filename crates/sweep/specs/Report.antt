-- The line on standard error that says why no more records were added. Definitions only.
use Rattle.std.specs.Prelude.{List, ◌++◌, ℕ, codes}
use Rattle.std.specs.declared.option.Option.{Option}
use Rattle.std.specs.declared.option.Option.TheVariants.{None, Some}
use Rattle.std.specs.Fmt.{decimal}
use Rattle.streams.specs.declared.record.Stop.{Stop}
use Rattle.streams.specs.declared.record.Stop.TheVariants.{End, Short, TooLong, Failed}

-- the input ended after the last record
abbrev pub EndsWell : Option Stop → Type 0
EndsWell None = Unit
EndsWell (Some End) = Unit
EndsWell (Some Short) = ⊥
EndsWell (Some TooLong) = ⊥
EndsWell (Some (Failed error)) = ⊥

-- a line about the record of this number, counted from 1
abbrev pub fault_line : ℕ → List ℕ → List ℕ
fault_line number fault =
    codes "sweep: record " ++ (decimal number ++ (codes " " ++ (fault ++ codes "; the set has only the records before it\n")))
