-- The tables that a body's vertices are made of, and a step that is run on them. Definitions only.
use Rattle.std.specs.Prelude.{◌≡◌, List, ℕ, ◌≤◌, Float, length}
use Rattle.std.specs.Borrow.{Bor, MutBor}
use Rattle.vec3.specs.declared.points.Point.{Point}
use Rattle.curve.specs.Segments.{vertices_in}
use Rattle.descriptions.specs.Descriptions.{segment_count}
use Rattle.descriptions.specs.declared.shaped.Shaped.{Shaped}
use Rattle.bodies.specs.Bodies.{CurveDirections, drawn_of}

-- how many segments a body's curve has, each of which has a direction
abbrev pub direction_count : Shaped → ℕ
direction_count shaped = segment_count shaped.description (vertices_in shaped.curve.now)

-- the directions of a body's curve, and scratch space as long
pub record BodyTables (shaped : Shaped) (directions ez : List Point) : Type 0 where
  pub along : CurveDirections shaped.description shaped.curve.now directions
  pub room : direction_count shaped ≤ length ez

-- what the code writes for a body
abbrev pub drawn : Shaped → List Float
drawn shaped = drawn_of shaped.description shaped.curve.now

-- a step may be run on any tables of a body, and on what is lent
abbrev pub RunsOnTables : Shaped → List Float
    → (Bor (List Point) → MutBor (List Point) → MutBor (List Float) → Type 0) → Type 0
RunsOnTables shaped out pre =
    (directions : Bor (List Point)) (ez : MutBor (List Point)) (lent : MutBor (List Float))
    → BodyTables shaped directions.now ez.now → lent.now ≡ out → pre directions ez lent

-- it was run on tables of a body and on what was lent, which it left as `after`
abbrev pub RanOnTables : {R : Type 0} → Shaped → List Float → List Float → R
    → (Bor (List Point) → MutBor (List Point) → MutBor (List Float) → R → MutBor (List Point) → MutBor (List Float)
    → Type 0)
    → Type 0
RanOnTables shaped before after result post =
    (directions : Bor (List Point)) × (ez : MutBor (List Point)) × (lent : MutBor (List Float))
    × (ez_left : MutBor (List Point)) × (lent_left : MutBor (List Float))
    × BodyTables shaped directions.now ez.now × (lent.now ≡ before)
    × post directions ez lent result ez_left lent_left × (after ≡ lent_left.now)
