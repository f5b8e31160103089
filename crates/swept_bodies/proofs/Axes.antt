-- The axes along a curve are those of the definitions: the cases of the definitions decided.
-- Assumes nothing.
use Rattle.std.proofs.Common.{◌≡◌, refl, sym, ap, ◌∙◌, ◌+◌, List, ℕ, ◌-◌, ◌≤◌, ◌<◌, Float, arith, eq-eqb, ne_eqb}
use Rattle.surface.specs.declared.grid.Chain.{Chain}
use Rattle.surface.specs.declared.grid.Chain.TheVariants.{Open, Closed}
use Rattle.vec3.specs.declared.points.Point.{Point}
use Rattle.curve.specs.Segments.{segment_direction}
use Rattle.curve.specs.Framex.{carried_of, carried_to}
use Rattle.curve.proofs.Carry.{carried-next}
use Rattle.swept_bodies.specs.Swept.{axes_first, axes_inner, axes_last}
use Rattle.swept_bodies.specs.Polyline3.{vtx2framex, framez, vtx2framey, axes_of}
use Rattle.swept_bodies.specs.Polyloop3 as polyloop3
use Rattle.rings.specs.Axes.{axes_at, between_of}

-- what is carried on segment k, from what is carried on the one before it
pub carried_after : (chain : Chain) (m : ℕ) (c : List Float) (k : ℕ) → 1 ≤ k
    → carried_to (carried_of chain m c (k - 1)) (segment_direction chain m c k) ≡ carried_of chain m c k
carried_after chain m c k h =
    let e : k - 1 + 1 ≡ k = omega arith in
    ap (λ (j : ℕ). carried_to (carried_of chain m c (k - 1)) (segment_direction chain m c j)) (sym e)
    ∙ carried-next chain m c (k - 1) ∙ ap (carried_of chain m c) e

-- the frame on an open curve: at the first vertex of a segment, and at the last vertex
module _ (m : ℕ) (c : List Float) where
  pub frame-within : (g : ℕ) → g < m → (carried_of Open m c g).frame ≡ vtx2framex m c g
  unfolding carried_of vtx2framex
  frame-within g l = rw (ne_eqb g m (λ e. omega arith)) refl

  pub frame-last : (carried_of Open m c (m - 1)).frame ≡ vtx2framex m c m
  unfolding carried_of vtx2framex
  frame-last = rw (eq-eqb m m refl) refl

-- the axes on an open curve: at its first vertex, between two segments, at its last
module _ (m : ℕ) (c : List Float) (h : 1 ≤ m) where
  pub axes-first : axes_first Open m c ≡ axes_of m c 0
  unfolding carried_of axes_at axes_of vtx2framey vtx2framex framez
  axes-first = rw (ne_eqb 0 m (λ e. omega arith)) refl

  pub axes-inner : (g : ℕ) → 1 ≤ g → g < m → axes_inner Open m c g ≡ axes_of m c g
  unfolding carried_of axes_at axes_of vtx2framey vtx2framex framez between_of
  axes-inner g l u = rw (ne_eqb g 0 (λ e. omega arith), ne_eqb g m (λ e. omega arith)) refl

  pub axes-last : axes_last Open m c ≡ axes_of m c m
  unfolding carried_of axes_at axes_of vtx2framey vtx2framex framez
  axes-last = rw (ne_eqb m 0 (λ e. omega arith), eq-eqb m m refl) refl

-- the frame and the axes at any vertex of a loop
module _ (N : ℕ) (c : List Float) where
  pub frame-on-loop : (g : ℕ) → (carried_of Closed N c g).frame ≡ polyloop3.vtx2framex N c g
  unfolding carried_of polyloop3.vtx2framex
  frame-on-loop g = refl

  pub axes-on-loop : (g : ℕ) → axes_inner Closed N c g ≡ polyloop3.axes_of N c (polyloop3.vtx2framex N c g) g
  unfolding carried_of polyloop3.vtx2framex polyloop3.axes_of
  axes-on-loop g = refl

  pub axes-loop-first : axes_first Closed N c ≡ polyloop3.axes_of N c (polyloop3.vtx2framex N c 0) 0
  unfolding carried_of
  axes-loop-first = axes-on-loop 0
