-- "a description that is one of five kinds, each with its sizes, and a curve" (document 01, 'The
-- shared set'), and of a sixth: "Kind 6 has kind 4's counts, triangles and limits" (document 02,
-- No. 1). What a description and a curve give together. Definitions only.
use Rattle.std.specs.Prelude.{Bool, true, false, cond, ℕ, ◌-◌}
use Rattle.surface.specs.declared.grid.Chain.{Chain}
use Rattle.surface.specs.declared.grid.Chain.TheVariants as chain
use Rattle.kinds.specs.declared.topology.Topology.{Topology}
use Rattle.kinds.specs.declared.topology.Topology.TheVariants as topology
use Rattle.curve.specs.Segments.{segments_of}
use Rattle.descriptions.specs.declared.description.Description.{Description}
use Rattle.descriptions.specs.declared.description.Description.TheVariants.{Ribbon, Tube, Capsule, Torus}
use Rattle.descriptions.specs.declared.description.Description.TheVariants.{ClosedCylinder, SeamlessTorus}

-- The curve of a torus, with a seam or without, is closed, the others' are open ('Frames and
-- vertices'). That of a closed cylinder has no vertex.
abbrev pub curve_chain : Description → Chain
curve_chain (Ribbon w) = chain.Open
curve_chain (Tube n r) = chain.Open
curve_chain (Capsule n L r) = chain.Open
curve_chain (Torus n r) = chain.Closed
curve_chain (ClosedCylinder n S centred r l) = chain.Open
curve_chain (SeamlessTorus n r) = chain.Closed

-- how many segments the curve has, where it has N vertices
abbrev pub segment_count : Description → ℕ → ℕ
segment_count d N = segments_of (curve_chain d) N

-- "Refusal 13 covers vertex 0 for kind 6" (document 02, No. 1): the vertex where a loop closes
abbrev pub start_checked : Description → Bool
start_checked (Ribbon w) = false
start_checked (Tube n r) = false
start_checked (Capsule n L r) = false
start_checked (Torus n r) = false
start_checked (ClosedCylinder n S centred r l) = false
start_checked (SeamlessTorus n r) = true

-- How many corners a fold (13) is looked for at: those "at vertices 1 to m − 1, for a torus 1 to
-- N − 1". Corner k stands at the end of segment k, so these are all but that of the last segment.
-- On a loop that one stands at vertex 0, and counts where vertex 0 is checked.
abbrev pub corners_of : Description → ℕ → ℕ
corners_of d N = cond (start_checked d) (segment_count d N) (segment_count d N - 1)

-- The body by its numbers: all that its counts and its triangles need ('Triangle lists').
abbrev pub topology_of : Description → ℕ → Topology
topology_of (Ribbon w) N = topology.Ribbon (record { segments = N - 1 })
topology_of (Tube n r) N = topology.Tube (record { divisions = n; segments = N - 1 })
topology_of (Capsule n L r) N = topology.Capsule (record { divisions = n; longitudes = L; segments = N - 1 })
topology_of (Torus n r) N = topology.Torus (record { divisions = n; vertices = N })
topology_of (ClosedCylinder n S centred r l) N = topology.ClosedCylinder (record { divisions = n; layers = S })
topology_of (SeamlessTorus n r) N = topology.Torus (record { divisions = n; vertices = N })
