-- What reading and writing whole buffers does to the bytes that a reader has left and a writer
-- holds, where these are known. Of a file, a pipe or a terminal no contract can say which bytes it
-- gives. Definitions only.
use Rattle.std.specs.Prelude.{ℕ, ◌<◌, ◌≤◌, List, length, take, Result, Ok, Err}
use Rattle.std.specs.declared.option.Option.{Option}
use Rattle.std.specs.Io.KnownBytes.{Appends, Consumes, IsAtEnd}

-- the known bytes lost the front of them that now is in `buf`; where that does not fill `buf`, the
-- input ended, and no more are left; where a read failed, some of `buf` may have been filled
abbrev pub FilledFrom : {E : Type 0} → Option (List ℕ) → Option (List ℕ) → Result ℕ E → List ℕ → Type 0
FilledFrom old new (Ok count) buf = Consumes old new (take count buf) × (count < length buf → IsAtEnd new)
FilledFrom old new (Err error) buf = (n : ℕ) × (n ≤ length buf) × Consumes old new (take n buf)

-- the known bytes grew by some front of `buf`
abbrev pub AppendsFront : Option (List ℕ) → Option (List ℕ) → List ℕ → Type 0
AppendsFront old new buf = (n : ℕ) × (n ≤ length buf) × Appends old new (take n buf)
