-- The sums of each arm are the scores of its octant: the pair of the octant says which table's
-- entries stand for its cosine and its sine, and which of them is negated.
use Rattle.std.proofs.Common.{◌≡◌, refl, ap, Float, arith, rules}
use Rattle.std.specs.Float.{binary32}
use Rattle.std.specs.Float.Ieee.{neg}
use Rattle.float32.proofs.Signs.{mul-neg}
use Rattle.vec3.specs.Points.{plus, times}
use Rattle.vec3.specs.Turns.{in_octant}
use Rattle.vec3.specs.declared.turns.Direction.{Direction}
use Rattle.twists.proofs.Octants.{octant-sums}
use Rattle.twists.proofs.eighth.Eighth.fill_octant.Goals as goal

abbrev cosine : Direction → Float
cosine d = d.cos

abbrev sine : Direction → Float
sine d = d.sin

negated : (a b x y : Float) → plus (times (neg a) x) (times b y) ≡ plus (times a (neg x)) (times b y)
negated a b x y = ap (λ (p : Float). plus p (times b y)) (mul-neg binary32 a x)

pub returns-in-0 : goal.returns-in-0
unfolding in_octant
returns-in-0 c =
    let a = c.args in
    let e = a.ends in
    let t = a.self.now in
    octant-sums e.c0 e.s0 e.c0 e.s0 0 a.octant t.cos.now t.sin.now _ cosine sine
    (omega arith) c.in-0.is t.cosines t.sines
    (λ d. refl)
    (λ j l. search (rules, c.fill.ensures j l))

pub returns-in-1 : goal.returns-in-1
unfolding in_octant
returns-in-1 c =
    let a = c.args in
    let e = a.ends in
    let t = a.self.now in
    octant-sums e.c0 e.s0 e.c0 e.s0 1 a.octant t.sin.now t.cos.now _ sine cosine
    (omega arith) c.in-1.is t.sines t.cosines
    (λ d. refl)
    (λ j l. search (rules, c.fill-in-1.ensures j l))

pub returns-in-2 : goal.returns-in-2
unfolding in_octant
returns-in-2 c =
    let a = c.args in
    let e = a.ends in
    let t = a.self.now in
    octant-sums e.c0 e.s0 (neg e.c0) e.s0 2 a.octant t.sin.now t.cos.now _ sine cosine
    (omega arith) c.in-2.is t.sines t.cosines
    (λ d. negated e.c0 e.s0 d.sin d.cos)
    (λ j l. search (rules, c.fill-in-2.ensures j l))

pub returns-in_default : goal.returns-in_default
unfolding in_octant
returns-in_default c =
    let a = c.args in
    let e = a.ends in
    let t = a.self.now in
    octant-sums e.c0 e.s0 (neg e.c0) e.s0 3 a.octant t.cos.now t.sin.now _ cosine sine
    (omega arith) (omega arith) t.cosines t.sines
    (λ d. negated e.c0 e.s0 d.cos d.sin)
    (λ j l. search (rules, c.fill-in_default.ensures j l))
