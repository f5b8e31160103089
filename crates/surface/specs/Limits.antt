-- How many vertices, and how many triangles, a set may have, and whether a buffer has room for
-- them. A list that is written alone keeps to the same limit. Definitions only.
use Rattle.std.specs.Prelude.{Bool, ◌&&◌, ℕ, ◌*◌, ◌^◌, leb}

-- "take their total above 2^28" (document 01, 'Refused, and through whom', of 3 and 4). It stays a
-- power, because two long numerals are compared by counting.
abbrev pub most_in_all : ℕ
most_in_all = 2 ^ 28

-- Not "a total above 2^28 or, times 3, above a buffer's length" (a damaged table, 1; the table's
-- definition says its two halves apart), and not "exceed their buffer or take their total above
-- 2^28" (3 for vertices, 4 for triangles).
unfoldable pub fits : ℕ → ℕ → Bool
fits total room = leb total most_in_all && leb (3 * total) room
