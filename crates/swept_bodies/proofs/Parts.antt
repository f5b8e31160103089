-- A body is what stands at its first vertex, the rings between two segments, and what stands at its
-- last vertex. Assumes nothing.
use Rattle.std.proofs.Common.{◌≡◌, refl, sym, ap, ◌∙◌, List, ◌++◌, append-nil, ℕ, ◌+◌, ◌-◌, ◌≤◌, ◌<◌, Float}
use Rattle.std.proofs.Common.{arith, eq-eqb, ne_eqb}
use Rattle.laws.specs.Blocks.{blocks}
use Rattle.laws.proofs.Blocks.{blocks-cong, blocks-ends, blocks-first}
use Rattle.surface.specs.declared.grid.Chain.{Chain}
use Rattle.surface.specs.declared.grid.Chain.TheVariants.{Open, Closed}
use Rattle.surface.specs.declared.caps.End.TheVariants.{Bottom, Top}
use Rattle.vec3.specs.declared.turns.Direction.{Direction}
use Rattle.vec3.specs.declared.points.Point.{Point}
use Rattle.rings.specs.Vertices.{ring_of}
use Rattle.rings.specs.Rings.{ring_vertex, ring_at}
use Rattle.vec3.specs.declared.frames.Frame.{Frame}
use Rattle.rings.specs.declared.axes.Axes.{Axes}
use Rattle.rings.specs.declared.ring.Order.TheVariants.{EyFirst, SumFirst}
use Rattle.rings.specs.declared.ring.Ring.{Ring}
use Rattle.rings.proofs.RingVertices.{tube-vertices, torus-vertices}
use Rattle.ring_writers.specs.Caps.{end_vertices}
use Rattle.swept_bodies.specs.Swept.{order_of, ring_about, axes_inner, inner_rings, swept_vertices}
use Rattle.swept_bodies.specs.Polyline3.{axes_of, tube_ring, tube_vertices}
use Rattle.swept_bodies.specs.Polyloop3 as polyloop3
use Rattle.swept_bodies.specs.Capsule.{capsule_part, capsule_vertices}
use Rattle.swept_bodies.specs.declared.ending.Ending.TheVariants.{Rings, Caps, Joined}
use Rattle.swept_bodies.proofs.Axes.{axes-first, axes-inner, axes-last, axes-on-loop, axes-loop-first}

-- a ring's vertices, as a call makes them in the order of the curve
pub ring_made : (chain : Chain) (n : ℕ) (r : Float) (a : Axes)
    → ring_of (ring_vertex (ring_at (order_of chain) a r)) n ≡ ring_about chain n r a
ring_made Open n r a = ap (λ (v : Direction → Point). ring_of v n) (tube-vertices a r)
ring_made Closed n r a = ap (λ (v : Direction → Point). ring_of v n) (torus-vertices a r)

-- the ring of an open curve at a vertex of it
pub tube-ring : (n : ℕ) (r : Float) (m : ℕ) (c : List Float) (g : ℕ) {k : Ring} {a : Axes} → k ≡ ring_at EyFirst a r
    → a ≡ axes_of m c g
    → ring_of (ring_vertex k) n ≡ tube_ring n r m c g
tube-ring n r m c g {a = a} is at =
    ap (λ (k : Ring). ring_of (ring_vertex k) n) is ∙ ring_made Open n r a ∙ ap (ring_about Open n r) at

-- on a loop, of axes with any frame
pub torus-ring : (n : ℕ) (r : Float) (N : ℕ) (c : List Float) (frame : Frame) (g : ℕ) {k : Ring} {a : Axes}
    → k ≡ ring_at SumFirst a r → a ≡ polyloop3.axes_of N c frame g
    → ring_of (ring_vertex k) n ≡ polyloop3.torus_ring n r N c frame g
torus-ring n r N c frame g {a = a} is at =
    ap (λ (k : Ring). ring_of (ring_vertex k) n) is ∙ ring_made Closed n r a ∙ ap (ring_about Closed n r) at

module _ (n : ℕ) (r : Float) (m : ℕ) (c : List Float) (h : 1 ≤ m) where
  -- the rings between two segments of an open curve
  pub tube-inner : inner_rings Open n r m c ≡ blocks (m - 1) (λ k. tube_ring n r m c (k + 1))
  tube-inner = blocks-cong (m - 1) (λ k. ring_about Open n r (axes_inner Open m c (k + 1)))
      (λ k. tube_ring n r m c (k + 1))
      (λ k l. ap (ring_about Open n r) (axes-inner m c h (k + 1) (omega arith) (omega arith)))

  -- a tube: a ring, the inner ones, a ring
  pub tube_parts : swept_vertices Rings Open n r m c ≡ tube_vertices n r m c
  unfolding swept_vertices
  tube_parts =
      (λ i. ring_about Open n r (axes-first m c h i) ++ (tube-inner i ++ ring_about Open n r (axes-last m c h i)))
      ∙ sym (blocks-ends m (tube_ring n r m c) h)

  -- the rings of a loop at the vertices after its first
  pub torus-inner : inner_rings Closed n r m c ≡ blocks (m - 1) (λ k. polyloop3.torus_part n r m c (k + 1))
  torus-inner = blocks-cong (m - 1) (λ k. ring_about Closed n r (axes_inner Closed m c (k + 1)))
      (λ k. polyloop3.torus_part n r m c (k + 1))
      (λ k l. ap (ring_about Closed n r) (axes-on-loop m c (k + 1)))

  -- a torus: a ring, and the others
  pub torus_parts : swept_vertices Joined Closed n r m c ≡ polyloop3.torus_vertices n r m c
  unfolding swept_vertices
  torus_parts =
      let part = polyloop3.torus_part n r m c in
      let e : m - 1 + 1 ≡ m = omega arith in
      (λ i. ring_about Closed n r (axes-loop-first m c i) ++ append-nil (torus-inner i) i)
      ∙ sym (blocks-first (m - 1) part) ∙ ap (λ (k : ℕ). blocks k part) e

-- the parts of a capsule: at its curve's first vertex, at an inner one, at the last
module _ (n L : ℕ) (r : Float) (m : ℕ) (c : List Float) where
  pub part-inner : (k : ℕ) → k < m - 1 → capsule_part n L r m c (k + 1) ≡ tube_ring n r m c (k + 1)
  part-inner k h = rw (ne_eqb (k + 1) 0 (λ e. omega arith), ne_eqb (k + 1) m (λ e. omega arith))

  pub parts-inner : blocks (m - 1) (λ k. capsule_part n L r m c (k + 1))
      ≡ blocks (m - 1) (λ k. tube_ring n r m c (k + 1))
  parts-inner = blocks-cong (m - 1) (λ k. capsule_part n L r m c (k + 1)) (λ k. tube_ring n r m c (k + 1)) part-inner

  pub part-last : 1 ≤ m → capsule_part n L r m c m ≡ end_vertices Top (axes_of m c m) r L n
  part-last h = rw (ne_eqb m 0 (λ e. omega arith), eq-eqb m m refl)

  -- pole and cap, inner rings, cap and pole
  pub capsule-parts : 1 ≤ m → capsule_vertices n L r m c
      ≡ end_vertices Bottom (axes_of m c 0) r L n ++ (blocks (m - 1) (λ k. tube_ring n r m c (k + 1))
      ++ end_vertices Top (axes_of m c m) r L n)
  capsule-parts h =
      blocks-ends m (capsule_part n L r m c) h
      ∙ (λ i. end_vertices Bottom (axes_of m c 0) r L n ++ (parts-inner i ++ part-last h i))

  pub capsule_swept : 1 ≤ m → swept_vertices (Caps L) Open n r m c ≡ capsule_vertices n L r m c
  unfolding swept_vertices
  capsule_swept h =
      (λ i. end_vertices Bottom (axes-first m c h i) r L n
      ++ (tube-inner n r m c h i ++ end_vertices Top (axes-last m c h i) r L n))
      ∙ sym (capsule-parts h)
