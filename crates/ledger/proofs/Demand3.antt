-- Demand 3: after any list of additions, from a ledger that the buffers hold or after a clear, the
-- buffers are the ledger's, which is told of each addition with the k that add takes. It holds
-- call by call. Assumes nothing.
use Rattle.std.proofs.Common.{◌≡◌, refl, sym, ap, subst, ◌∙◌, List, [], ◌∷◌, ◌++◌, ⊎_elim, inl, ℕ, ◌≤◌, arith, leb-true, leb, Float, length, drop}
use Rattle.laws.specs.Overwrite.{overwrite}
use Rattle.laws.proofs.Overwrite.{overwrite-none, length-overwrite}
use Rattle.laws.proofs.Overlaps.{overwrite-front, overwrite-cover}
use Rattle.answers.specs.Answers.{accepted, test}
use Rattle.answers.proofs.FirstOf.{accepted-by}
use Rattle.set_table.specs.Entries.{all_words}
use Rattle.set_table.specs.Room.{lengths}
use Rattle.set_table.specs.declared.lengths.Lengths.{Lengths}
use Rattle.set_table.specs.Buffers.{Buffers, buffers, lengths_of}
use Rattle.bodies.proofs.Best.{taken-best}
use Rattle.shared_set.specs.Additions.{Addition}
use Rattle.shared_set.specs.Bodies.{Body}
use Rattle.shared_set.specs.Set.{After, clear_answer}
use Rattle.ledger.specs.Ledger.{Ledger, empty, then, reply_to, replies_to, entered, final, body_count, entries_of}
use Rattle.ledger.specs.Ledger.{set_table, set_vertices, set_triangles, zeroed_by, zeroed_by23}
use Rattle.ledger.specs.Calls.{Called, Call, told, tell, answered, additions, cleared_set, clear_and_add}
use Rattle.ledger.specs.Shapes.{HasBest, EachBest, EachAdded, Grown}
use Rattle.ledger.specs.Holds.{begins_with, Limited, Holds}
use Rattle.ledger.specs.Demand3.{FromHeld, AfterClear, Demand3, ledger_of}
use Rattle.ledger.proofs.Sizes.{length-table, length-set-vertices, length-set-triangles}
use Rattle.ledger.proofs.Packing.{packed, Kept, packed-held, one, kept_next}

-- the k that add takes is one of the best, at a call and at each of a list
told-best : (call : Call) → HasBest (told call)
told-best call = taken-best call.description call.curve

each-best : (list : List Call) → EachBest (tell list)
each-best [] = tt
each-best (call ∷ rest) = (told-best call, each-best rest)

module _ (s₀ : Buffers) where
  -- Any list of additions, from any ledger whose set the buffers begin with. The calls and the
  -- ledger go side by side.
  many : {L₀ : Ledger} (list : List Call) (L : Ledger) (held : List Float) → Kept s₀ L₀ L held
      → additions list (packed s₀ L held)
      ≡ record {
        answers = replies_to (lengths_of s₀) L (tell list);
        left = packed s₀ (final (lengths_of s₀) L (tell list)) (zeroed_by23 (lengths_of s₀) L (tell list) held);
      }
  many [] L held kept = refl
  many (call ∷ rest) L held kept =
      let a = told call in
      let answer = reply_to (lengths_of s₀) L a in
      let next = kept_next s₀ L a held answer kept (told-best call) refl in
      ap (λ (r : After). answered r.answer (additions rest r.left)) (one s₀ L a held kept)
      ∙ ap (answered answer) (many rest (entered L a answer) (zeroed_by L a answer held) next)

  kept-final : {L₀ : Ledger} (list : List Addition) → EachBest list → (L : Ledger) (held : List Float)
      → Kept s₀ L₀ L held → Kept s₀ L₀ (final (lengths_of s₀) L list) (zeroed_by23 (lengths_of s₀) L list held)
  kept-final [] best L held kept = kept
  kept-final (a ∷ rest) best L held kept =
      let answer = reply_to (lengths_of s₀) L a in
      let next = kept_next s₀ L a held answer kept best.0 refl in
      kept-final rest best.1 (entered L a answer) (zeroed_by L a answer held) next

-- what was written at the front is what the list begins with
begins-itself : {A : Type 0} (set held : List A) → length set ≤ length held
    → overwrite 0 set held ≡ begins_with set (overwrite 0 set held)
begins-itself set held h =
    sym (overwrite-cover 0 set set held (omega arith)) ∙ overwrite-front set (overwrite 0 set held) (omega (arith, length-overwrite 0 set held))

module _ (s : Buffers) {L₀ : Ledger} (L : Ledger) (held : List Float) (kept : Kept s L₀ L held) where
  table-room : length (set_table L) ≤ length s.table
  table-room = omega (arith, length-table L, kept.limits.entries)

  vertex-room : length (set_vertices L) ≤ length held
  vertex-room = omega (arith, length-set-vertices L kept.each, kept.sized, kept.limits.vertices.1)

  triangle-room : length (set_triangles L) ≤ length s.triangles
  triangle-room = omega (arith, length-set-triangles L, kept.limits.triangles.1)

  -- packed buffers hold the ledger
  packed-holds : Holds (packed s L held) L
  packed-holds =
      let same = length-overwrite 0 (set_table L) s.table in
      record {
        limits = subst (λ (k : ℕ). Limited (lengths k (length (packed s L held).vertices) (length (packed s L held).triangles)) L) (sym same)
            (packed-held s L held kept);
        each = kept.each;
        table = begins-itself (set_table L) s.table table-room;
        vertices = begins-itself (set_vertices L) held vertex-room;
        triangles = begins-itself (set_triangles L) s.triangles triangle-room;
      }

-- what a list leaves of packed buffers
module _ (s : Buffers) (L : Ledger) (list : List Call) (kept : Kept s L L s.vertices) where
  abbrev last : Ledger
  last = final (lengths_of s) L (tell list)

  abbrev zeroed : List Float
  zeroed = zeroed_by23 (lengths_of s) L (tell list) s.vertices

  abbrev kept-last : Kept s L last zeroed
  kept-last = kept-final s (tell list) (each-best list) L s.vertices kept

  -- the buffers themselves where they begin with the ledger
  from-packed : s ≡ packed s L s.vertices → FromHeld s L list
  from-packed packs =
      let same = ap (additions list) packs ∙ many s list L s.vertices kept in
      record {
        twists = each-best list;
        answers = ap (λ (r : Called). r.answers) same;
        table =
            ap (λ (r : Called). r.left.table) same
            ∙ overwrite-front (set_table last) s.table (table-room s last zeroed kept-last);
        vertices =
            ap (λ (r : Called). r.left.vertices) same
            ∙ overwrite-front (set_vertices last) zeroed (vertex-room s last zeroed kept-last);
        triangles =
            ap (λ (r : Called). r.left.triangles) same
            ∙ overwrite-front (set_triangles last) s.triangles (triangle-room s last zeroed kept-last);
        holds = subst (λ (r : Called). Holds r.left last) (sym same) (packed-holds s last zeroed kept-last);
        grown = kept-last.grown;
      }

grown-itself : (L : Ledger) → Grown L L
grown-itself empty = refl
grown-itself (then L b) = inl refl

-- from a ledger that the buffers hold
from-held : (s : Buffers) (L : Ledger) (list : List Call) → Holds s L → FromHeld s L list
from-held s L list h =
    let kept : Kept s L L s.vertices =
    record { limits = h.limits; each = h.each; grown = grown-itself L; sized = refl } in
    let table = h.table ∙ sym (overwrite-front (set_table L) s.table (table-room s L s.vertices kept)) in
    let vertices = h.vertices ∙ sym (overwrite-front (set_vertices L) s.vertices (vertex-room s L s.vertices kept)) in
    let triangles =
    h.triangles ∙ sym (overwrite-front (set_triangles L) s.triangles (triangle-room s L s.vertices kept)) in
    from-packed s L list kept (λ j. buffers (table j) (vertices j) (triangles j))

-- a cleared set holds the empty ledger
module _ (s : Buffers) (ok : clear_answer s.table ≡ accepted tt) where
  some : 1 ≤ length s.table
  some = leb-true 1 (length s.table) (accepted-by (test 1 (leb 1 (length s.table)) ∷ []) tt (sym ok)).1.0

  clear-holds : Holds (cleared_set s) empty
  clear-holds =
      let same = length-overwrite 0 (0 ∷ []) s.table in
      record {
        limits = record { few = omega arith; entries = omega (arith, some, same); vertices = (omega arith, omega arith); triangles = (omega arith, omega arith) };
        each = tt;
        table = begins-itself (0 ∷ []) s.table some;
        vertices = refl;
        triangles = refl;
      }

  -- it has the lengths that it had
  clear-lengths : lengths_of (cleared_set s) ≡ lengths_of s
  clear-lengths =
      ap (λ (k : ℕ). lengths k (length s.vertices) (length s.triangles)) (length-overwrite 0 (0 ∷ []) s.table)

-- past a set's table, which has word 0 at least, a clear leaves what was there
past-clear : (n : ℕ) (set T : List ℕ) → drop (length (n ∷ set)) (overwrite 0 (0 ∷ []) T) ≡ drop (length (n ∷ set)) T
past-clear n set [] = refl
past-clear n set (x ∷ T) = ap (drop (length set)) (overwrite-none 0 T)

not-empty : (L : Ledger) (b : Body) → empty ≡ then L b → ⊥
not-empty L b e = let z : ◌≡◌ {A = ℕ} 0 1 = cc in absurd (omega arith)

each-added : (L : Ledger) → Grown empty L → EachAdded L
each-added empty g = tt
each-added (then L b) g = ⊎_elim (λ e. absurd (not-empty L b e)) (λ r. (each-added L r.0, r.1)) g

after-clear : (s : Buffers) (list : List Call) → clear_answer s.table ≡ accepted tt → AfterClear s list
after-clear s list ok =
    let cleared = cleared_set s in
    let done = from-held cleared empty list (clear-holds s ok) in
    let same = clear-lengths s ok in
    let asked = tell list in
    let ledger : final (lengths_of cleared) empty asked ≡ ledger_of s list =
    ap (λ (l : Lengths). final l empty asked) same in
    record {
      twists = done.twists;
      answers = done.answers ∙ ap (λ (l : Lengths). replies_to l empty asked) same;
      table = done.table
          ∙ ap (λ (L : Ledger). begins_with (set_table L) cleared.table) ledger
          ∙ ap (λ (l : List ℕ). set_table (ledger_of s list) ++ l) (past-clear (body_count (ledger_of s list)) (all_words (entries_of (ledger_of s list))) s.table);
      vertices = done.vertices
          ∙ ap
          (λ (l : Lengths). begins_with (set_vertices (final l empty asked)) (zeroed_by23 l empty asked s.vertices))
          same;
      triangles = done.triangles ∙ ap (λ (L : Ledger). begins_with (set_triangles L) s.triangles) ledger;
      bodies = each-added (ledger_of s list) (subst (λ (L : Ledger). Grown empty L) ledger done.grown);
      holds = subst (λ (L : Ledger). Holds (clear_and_add list s).left L) ledger done.holds;
    }

-- DEMAND 3
pub demand-3 : Demand3
demand-3 = record { held = from-held; clear = after-clear }
