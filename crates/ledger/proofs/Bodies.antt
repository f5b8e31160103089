-- A body of permitted numbers has the shape that demand 3 claims, and a body that is added has
-- permitted numbers: those of its description, whose kind and n they fit. Assumes nothing.
use Rattle.std.proofs.Common.{◌≡◌, refl, sym, ap, subst, ◌∙◌, Bool, true, false, ◌||◌, List, [], ◌∷◌, ℕ, ◌+◌, ◌-◌, ◌*◌, ◌/◌, arith, eqb-true, eqb, length}
use Rattle.std.proofs.lemmas.Bool.{and_parts}
use Rattle.float32.specs.Scan.{all_finite}
use Rattle.surface.specs.Triangles.{Triangle, triangle, flatten, shift}
use Rattle.kinds.specs.Kinds.{permitted, vertex_count, triangles_of}
use Rattle.kinds.specs.Limits.{between}
use Rattle.kinds.specs.Claims.{Claims}
use Rattle.kinds.specs.declared.topology.Topology.{Topology}
use Rattle.kinds.specs.declared.topology.Topology.TheVariants as topology
use Rattle.kinds.proofs.Bounds.{bounds}
use Rattle.kinds.proofs.Claims.{permitted-claims, capsule-triangles}
use Rattle.curve.specs.Segments.{vertices_in}
use Rattle.answers.specs.Answers.{AllPermitted}
use Rattle.descriptions.specs.Descriptions.{topology_of}
use Rattle.descriptions.specs.Refusals.{checked_tests}
use Rattle.descriptions.specs.KindNumbers.{kind_number, divisions_of, last_kind}
use Rattle.descriptions.specs.declared.description.Description.{Description}
use Rattle.descriptions.specs.declared.description.Description.TheVariants.{Ribbon, Tube, Capsule}
use Rattle.descriptions.specs.declared.description.Description.TheVariants.{Torus, ClosedCylinder, SeamlessTorus}
use Rattle.descriptions.proofs.Shapes.{shape-permitted, checked-shape}
use Rattle.bodies.specs.Bodies.{twist_finite, floats_finite}
use Rattle.bodies.proofs.Lengths.{length-vertices}
use Rattle.shared_set.specs.Additions.{Addition}
use Rattle.shared_set.specs.Bodies.{Body, vertex_count_in, body_alone}
use Rattle.ledger.specs.Shapes.{kind_fits, divisions_with, Shaped, HasBest, Added}

-- the kind and n of a description fit its numbers
kind_fits-topology : (d : Description) (N : ℕ) → kind_fits (topology_of d N) (kind_number d) ≡ true
kind_fits-topology (Ribbon w) N = refl
kind_fits-topology (Tube n r) N = refl
kind_fits-topology (Capsule n L r) N = refl
kind_fits-topology (Torus n r) N = refl
kind_fits-topology (ClosedCylinder n S centred r l) N = refl
kind_fits-topology (SeamlessTorus n r) N = refl

divisions-same : (d : Description) (N : ℕ) → divisions_of d ≡ divisions_with (topology_of d N)
divisions-same (Ribbon w) N = refl
divisions-same (Tube n r) N = refl
divisions-same (Capsule n L r) N = refl
divisions-same (Torus n r) N = refl
divisions-same (ClosedCylinder n S centred r l) N = refl
divisions-same (SeamlessTorus n r) N = refl

capsule-counted : (t : Topology) → permitted t ≡ true → (n L m : ℕ)
    → t ≡ topology.Capsule (record {
      divisions =
          n;
      longitudes = L;
      segments = m;
    }) → length (triangles_of t) ≡ 2 * n * (2 * L + m - 1)
capsule-counted t h n L m e =
    let capsule = topology.Capsule (record { divisions = n; longitudes = L; segments = m }) in
    subst (λ (x : Topology). permitted x ≡ true → length (triangles_of x) ≡ 2 * n * (2 * L + m - 1)) (sym e)
    (λ p. capsule-triangles n L m (bounds capsule p).3) h

-- any body with the kind, n, triangles and number of floats that permitted numbers give
pub shaped : (t : Topology) (b : Body) (first : ℕ) → permitted t ≡ true → kind_fits t b.kind ≡ true
    → b.divisions ≡ divisions_with t → b.triangles ≡ triangles_of t → length b.vertices ≡ 3 * vertex_count t
    → all_finite b.vertices ≡ true → Shaped first b
shaped t b first h kind divisions triangles sized finite =
    let counted : vertex_count_in b ≡ vertex_count t = ap (λ (k : ℕ). k / 3) sized ∙ omega arith in
    record {
      numbers = t;
      allowed = h;
      kind = kind;
      divisions = divisions;
      triangles = triangles;
      vertices = counted;
      whole = omega (arith, sized, counted);
      finite = finite;
      claims = subst (λ (l : List Triangle). Claims t first (shift first l)) (sym triangles) ((permitted-claims t h).1 first);
      capsule = λ n L m e. omega (arith, ap length triangles, capsule-counted t h n L m e);
    }

-- a body alone, of an addition that nothing refuses before 2 and that 23 does not refuse
pub added : (a : Addition) (first : ℕ) → AllPermitted (checked_tests a.description a.curve)
    → floats_finite a.twist a.description a.curve ≡ true → HasBest a → Added first (body_alone a)
unfolding shaped
added a first h finite best =
    let d = a.description in
    let N = vertices_in a.curve in
    let shape = (checked-shape d a.curve h).1 in
    let both = and_parts (twist_finite d a.curve) (all_finite (body_alone a).vertices) finite in
    record {
      addition = a;
      passes = h;
      scores = both.0;
      twist = best;
      alone = refl;
      shaped = shaped (topology_of d N) (body_alone a) first (shape-permitted d N shape) (kind_fits-topology d N)
          (divisions-same d N) refl (length-vertices a.twist d a.curve shape) both.1;
      same = refl;
    }

-- a kind is in a table's range if it is one that is, and a torus's kind is one of two
between-one : (kind one : ℕ) → between 1 last_kind one ≡ true → eqb kind one ≡ true → between 1 last_kind kind ≡ true
between-one kind one h e = ap (between 1 last_kind) (eqb-true kind one e) ∙ h

either : {P : Type 0} (a b : Bool) → (a ≡ true → P) → (b ≡ true → P) → a || b ≡ true → P
either true b f g h = f refl
either false b f g h = g h

kind-between : (t : Topology) (kind : ℕ) → kind_fits t kind ≡ true → between 1 last_kind kind ≡ true
kind-between (topology.Ribbon k) kind h = between-one kind 1 refl h
kind-between (topology.Tube k) kind h = between-one kind 2 refl h
kind-between (topology.Capsule k) kind h = between-one kind 3 refl h
kind-between (topology.Torus k) kind h =
    either (eqb kind 4) (eqb kind 6) (between-one kind 4 refl) (between-one kind 6 refl) h
kind-between (topology.ClosedCylinder k) kind h = between-one kind 5 refl h

-- its kind is one that a table may have
pub kind-known : (first : ℕ) (b : Body) → Shaped first b → between 1 last_kind b.kind ≡ true
kind-known first b s = kind-between s.numbers b.kind s.kind

-- three numbers a triangle
pub length-shifted : (first : ℕ) (ts : List Triangle) → length (flatten (shift first ts)) ≡ 3 * length ts
length-shifted first [] = refl
length-shifted first (triangle a b c ∷ ts) = omega (arith, length-shifted first ts)
