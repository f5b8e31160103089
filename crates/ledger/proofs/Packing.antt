-- An addition to buffers that begin with a ledger's set leaves buffers that begin with the next
-- ledger's. Assumes nothing.
use Rattle.std.proofs.Common.{◌≡◌, refl, sym, ap, subst, ◌∙◌, Bool, true, false, cond, List, [], ◌∷◌, ◌++◌, inr, ℕ, ◌+◌, ◌*◌, ◌≤◌, add-zero, arith, eqb, Float, length}
use Rattle.laws.specs.Overwrite.{overwrite}
use Rattle.laws.proofs.Overwrite.{length-overwrite, overwrite-append}
use Rattle.laws.proofs.Overlaps.{overwrite-head, overwrite-swap}
use Rattle.float32.specs.Zeros.{zeros}
use Rattle.surface.specs.Triangles.{flatten, shift}
use Rattle.kinds.specs.Kinds.{vertex_count, triangle_count}
use Rattle.curve.specs.Segments.{vertices_in}
use Rattle.answers.specs.Answers.{Answer, refused, accepted, first_of}
use Rattle.answers.proofs.FirstOf.{accepted-by, both-permitted}
use Rattle.descriptions.specs.Descriptions.{topology_of}
use Rattle.descriptions.specs.Refusals.{checked_tests}
use Rattle.descriptions.proofs.Shapes.{checked-shape}
use Rattle.set_table.specs.Entries.{words_of, all_words}
use Rattle.set_table.specs.Room.{lengths}
use Rattle.set_table.specs.declared.lengths.Lengths.{Lengths}
use Rattle.set_table.specs.Buffers.{Buffers, buffers, lengths_of}
use Rattle.set_table.specs.Table.{with_entry}
use Rattle.set_table.proofs.Fitting.{fitting}
use Rattle.set_table.proofs.Words.{all-words-next}
use Rattle.shared_set.specs.Bodies.{Body, body_alone, entry_of}
use Rattle.shared_set.specs.Additions.{Addition, fit_tests, finite_tests, place_tests, addition_tests}
use Rattle.shared_set.specs.Set.{left_by, after_answer, added}
use Rattle.shared_set.proofs.Counts.{vertices-counted, triangles-counted}
use Rattle.ledger.specs.Ledger.{Ledger, then, body_count, vertex_sum, triangle_sum, totals_of, reply_to, entered}
use Rattle.ledger.specs.Ledger.{entries_of, set_table, set_vertices, last_triangles, set_triangles, zeroed_by}
use Rattle.ledger.specs.Shapes.{EachShaped, HasBest, Grown}
use Rattle.ledger.specs.Holds.{Limited}
use Rattle.ledger.proofs.Bodies as bodies
use Rattle.ledger.proofs.Sizes.{length-table, length-set-vertices, length-set-triangles}
use Rattle.ledger.proofs.ReadBack.{totals-read, not-damaged}

-- a write right after the set's part of a buffer is part of the next set
right-after : {A : Type 0} (set new old : List A) {at : ℕ} → at ≡ length set
    → overwrite at new (overwrite 0 set old) ≡ overwrite 0 (set ++ new) old
right-after set new old e =
    ap (λ (k : ℕ). overwrite k new (overwrite 0 set old)) (omega arith) ∙ overwrite-append 0 set new old

-- +0 past the set's part of a buffer, or nothing
zeros-past : (is : Bool) (at : ℕ) (set new held : List Float) → length set ≤ at
    → cond is (overwrite at new (overwrite 0 set held)) (overwrite 0 set held) ≡ overwrite 0 set (cond is (overwrite at new held) held)
zeros-past true at set new held h = overwrite-swap 0 at set new held (omega arith)
zeros-past false at set new held h = refl

length-zeroed : (is : Bool) (at : ℕ) (new held : List Float)
    → length (cond is (overwrite at new held) held) ≡ length held
length-zeroed true at new held = length-overwrite at new held
length-zeroed false at new held = refl

-- the indices of the body that goes to the end have its first vertex added
shifted : (L : Ledger) (b : Body) → last_triangles L b ≡ flatten (shift (vertex_sum L) b.triangles)
shifted L b = ap (λ (first : ℕ). flatten (shift first b.triangles)) (omega arith)

-- +0 in the stretch of a 23, and of no other number
zeroed : (L : Ledger) (a : Addition) (number : ℕ) (held : List Float)
    → zeroed_by L a (refused number) held
    ≡ cond (eqb number 23) (overwrite (3 * vertex_sum L) (zeros (length (body_alone a).vertices)) held) held
zeroed L a number held = search (add-zero, refl)

module _ (s₀ : Buffers) where
  -- the ledger's set at the front of the buffers, of which the vertices held `held`
  abbrev pub packed : Ledger → List Float → Buffers
  packed L held =
      buffers (overwrite 0 (set_table L) s₀.table) (overwrite 0 (set_vertices L) held) (overwrite 0 (set_triangles L) s₀.triangles)

  -- what stays true from call to call of a list that begins with the ledger L₀
  pub record Kept (L₀ L : Ledger) (held : List Float) : Type 0 where
    pub limits : Limited (lengths_of s₀) L
    pub each : EachShaped L
    pub grown : Grown L₀ L
    pub sized : length held ≡ length s₀.vertices

  same-lengths : {L₀ : Ledger} (L : Ledger) (held : List Float) → Kept L₀ L held
      → lengths_of (packed L held) ≡ lengths_of s₀
  same-lengths L held kept =
      let v = length-overwrite 0 (set_vertices L) held ∙ kept.sized in
      (λ j. lengths (length-overwrite 0 (set_table L) s₀.table j) (v j) (length-overwrite 0 (set_triangles L) s₀.triangles j))

  -- the set fits its own buffers
  pub packed-held : {L₀ : Ledger} (L : Ledger) (held : List Float) → Kept L₀ L held
      → Limited (lengths (length s₀.table) (length (packed L held).vertices) (length (packed L held).triangles)) L
  packed-held L held kept =
      subst (λ (l : Lengths). Limited (lengths (length s₀.table) l.vertices l.triangles) L) (sym (same-lengths L held kept)) kept.limits

  table-next : (L : Ledger) (b : Body)
      → with_entry (body_count L) (entry_of (totals_of L) b) (overwrite 0 (set_table L) s₀.table) ≡ overwrite 0 (set_table (then L b)) s₀.table
  table-next L b =
      let e = entry_of (totals_of L) b in
      ap (λ (T : List ℕ). overwrite 0 ((body_count L + 1) ∷ []) T) (right-after (set_table L) (words_of e) s₀.table (sym (length-table L)))
      ∙ overwrite-head (body_count L + 1) (body_count L) (all_words (entries_of L) ++ words_of e) s₀.table
      ∙ ap (λ (l : List ℕ). overwrite 0 ((body_count L + 1) ∷ l) s₀.table) (sym (all-words-next (entries_of L) e))

  -- what an answer makes of packed buffers
  leaves : (L : Ledger) (a : Addition) (held : List Float) (answer : Answer (Unit {0})) → EachShaped L
      → left_by answer (totals_of L) (body_alone a) (packed L held)
      ≡ packed (entered L a answer) (zeroed_by L a answer held)
  leaves L a held (accepted u) each =
      let b = body_alone a in
      let v = right-after (set_vertices L) b.vertices held (sym (length-set-vertices L each)) in
      let t =
      ap (λ (ts : List ℕ). overwrite (3 * triangle_sum L) ts (overwrite 0 (set_triangles L) s₀.triangles)) (sym (shifted L b))
      ∙ right-after (set_triangles L) (last_triangles L b) s₀.triangles (sym (length-set-triangles L)) in
      (λ j. buffers (table-next L b j) (v j) (t j))
  leaves L a held (refused number) each =
      let nothing = zeros (length (body_alone a).vertices) in
      let v =
      zeros-past (eqb number 23) (3 * vertex_sum L) (set_vertices L) nothing held (omega (arith, length-set-vertices L each))
      ∙ ap (overwrite 0 (set_vertices L)) (sym (zeroed L a number held)) in
      (λ j. buffers (overwrite 0 (set_table L) s₀.table) (v j) (overwrite 0 (set_triangles L) s₀.triangles))

  -- one addition
  pub one : {L₀ : Ledger} (L : Ledger) (a : Addition) (held : List Float) → Kept L₀ L held
      → let answer = reply_to (lengths_of s₀) L a in
      added a (packed L held)
      ≡ record { answer = answer; left = packed (entered L a answer) (zeroed_by L a answer held) }
  unfolding added reply_to
  one L a held kept =
      let s = packed L held in
      let same = same-lengths L held kept in
      let fits = packed-held L held kept in
      let fine = not-damaged L s₀.table (length s.vertices) (length s.triangles) fits kept.each in
      let told = totals-read L s₀.table (length s.vertices) (length s.triangles) fits in
      let answer = first_of (addition_tests (lengths_of s₀) (totals_of L) a) tt in
      (λ j. after_answer (told j) (body_alone a) s
      (cond (fine j) (first_of (addition_tests (same j) (told j) a) tt) (refused 1)))
      ∙ (λ j. record { answer = answer; left = leaves L a held answer kept.each j })

  -- an answer's ledger is kept, whichever it is
  pub kept_next : {L₀ : Ledger} (L : Ledger) (a : Addition) (held : List Float) (answer : Answer (Unit {0}))
      → Kept L₀ L held → HasBest a → answer ≡ reply_to (lengths_of s₀) L a
      → Kept L₀ (entered L a answer) (zeroed_by L a answer held)
  unfolding reply_to
  kept_next L a held (accepted u) kept best e =
      let d = a.description in
      let c = a.curve in
      let lent = lengths_of s₀ in
      let body = topology_of d (vertices_in c) in
      let tests = (accepted-by (addition_tests lent (totals_of L) a) tt e).1 in
      let both = both-permitted (checked_tests d c) (place_tests lent (totals_of L) a) tests in
      let has = both-permitted (fit_tests lent (totals_of L) d c) (finite_tests a) both.1 in
      let fit = fitting lent (totals_of L) (vertex_count body) (triangle_count body) (has.0, kept.limits.few) in
      let shape = (checked-shape d c both.0).1 in
      let v = vertices-counted a shape in
      let t = triangles-counted a shape in
      let last = bodies.added a (vertex_sum L) both.0 has.1.0 best in
      record {
        limits = record {
          few = omega (arith, fit.entry.0);
          entries = fit.entry.1;
          vertices = (omega (arith, fit.vertices.0, v), omega (arith, fit.vertices.1, v));
          triangles = (omega (arith, fit.triangles.0, t), omega (arith, fit.triangles.1, t));
        };
        each = (kept.each, last.shaped);
        grown = inr (kept.grown, last);
        sized = kept.sized;
      }
  kept_next L a held (refused number) kept best e =
      record {
        limits = kept.limits;
        each = kept.each;
        grown = kept.grown;
        sized =
            ap (length {A = Float}) (zeroed L a number held)
            ∙ length-zeroed (eqb number 23) (3 * vertex_sum L) (zeros (length (body_alone a).vertices)) held
            ∙ kept.sized;
      }
