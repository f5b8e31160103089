-- How many floats the vertices of each swept kind are. Assumes nothing.
use Rattle.std.proofs.Common.{◌≡◌, refl, ap, ◌∙◌, List, ℕ, ◌+◌, ◌-◌, ◌*◌, ◌≤◌, Float, length, length-append, arith}
use Rattle.laws.specs.Blocks.{blocks}
use Rattle.laws.proofs.Blocks.{length-blocks}
use Rattle.surface.specs.declared.caps.End.TheVariants.{Bottom, Top}
use Rattle.vec3.specs.declared.frames.Frame.{Frame}
use Rattle.rings.specs.Vertices.{tube_vertex, torus_vertex}
use Rattle.rings.specs.declared.axes.Axes.{Axes}
use Rattle.surface.specs.declared.grid.Chain.{Chain}
use Rattle.surface.specs.declared.grid.Chain.TheVariants.{Open, Closed}
use Rattle.ring_writers.proofs.Lengths.{length-ring, length-rings, length-cap, length-end}
use Rattle.swept_bodies.specs.Swept.{ring_about, axes_inner, inner_rings, end_part, end_floats}
use Rattle.swept_bodies.specs.declared.ending.Ending.{Ending}
use Rattle.swept_bodies.specs.declared.ending.Ending.TheVariants.{Rings, Caps, Joined}
use Rattle.swept_bodies.specs.Polyline3.{axes_of, tube_vertices, ribbon_part, ribbon_vertices}
use Rattle.swept_bodies.specs.Polyloop3 as polyloop3
use Rattle.swept_bodies.specs.Capsule.{capsule_vertices}
use Rattle.swept_bodies.proofs.Parts.{capsule-parts}

pub length-ribbon : (width : Float) (m : ℕ) (c : List Float) → length (ribbon_vertices width m c) ≡ (m + 1) * 6
length-ribbon width m c = length-blocks 6 (m + 1) (ribbon_part width m c) (λ g h. refl)

pub length-tube : (n : ℕ) (r : Float) (m : ℕ) (c : List Float) → length (tube_vertices n r m c) ≡ (m + 1) * (n * 3)
length-tube n r m c = length-rings (λ g. tube_vertex (axes_of m c g) r) (m + 1) n

pub length-capsule : (n L : ℕ) (r : Float) (m : ℕ) (c : List Float) → 1 ≤ m
    → length (capsule_vertices n L r m c) ≡ (2 * L + m - 1) * (n * 3) + 6
length-capsule n L r m c h =
    let e : 2 * L + m - 1 ≡ L + (m - 1) + L = omega arith in
    ap length (capsule-parts n L r m c h)
    ∙ rw e (simp length-append (omega (
      arith,
      length-cap Bottom (axes_of m c 0) r L n,
      length-rings (λ k. tube_vertex (axes_of m c (k + 1)) r) (m - 1) n,
      length-cap Top (axes_of m c m) r L n,
    )))

-- the rings on a loop, whatever its frames are, and those of a torus
pub length-loop : (frame : ℕ → Frame) (n : ℕ) (r : Float) (N : ℕ) (c : List Float)
    → length (blocks N (λ g. polyloop3.torus_ring n r N c (frame g) g)) ≡ N * (n * 3)
length-loop frame n r N c = length-rings (λ g. torus_vertex (polyloop3.axes_of N c (frame g) g) r) N n

pub length-torus : (n : ℕ) (r : Float) (N : ℕ) (c : List Float)
    → length (polyloop3.torus_vertices n r N c) ≡ N * (n * 3)
length-torus n r N c = length-loop (polyloop3.vtx2framex N c) n r N c

-- a ring on any curve, what stands at the first vertex, and the rings between two segments
pub length-about : (chain : Chain) (n : ℕ) (r : Float) (a : Axes) → length (ring_about chain n r a) ≡ n * 3
length-about Open n r a = length-ring (tube_vertex a r) n
length-about Closed n r a = length-ring (torus_vertex a r) n

pub length-first : (ending : Ending) (chain : Chain) (n : ℕ) (r : Float) (a : Axes)
    → length (end_part ending Bottom chain n r a) ≡ end_floats ending Bottom (n * 3)
length-first Rings chain n r a = length-about chain n r a
length-first (Caps L) chain n r a = length-end Bottom a r L n
length-first Joined chain n r a = length-about chain n r a

pub length-inner : (chain : Chain) (n : ℕ) (r : Float) (m : ℕ) (c : List Float)
    → length (inner_rings chain n r m c) ≡ (m - 1) * (n * 3)
length-inner chain n r m c = length-blocks (n * 3) (m - 1) (λ k. ring_about chain n r (axes_inner chain m c (k + 1)))
    (λ k h. length-about chain n r (axes_inner chain m c (k + 1)))
