-- The table at whose front the directions were written is the one that the writers ask for.
-- Assumes nothing.
use Rattle.std.proofs.Common.{◌≡◌, ap, ◌∙◌, List, ℕ, ◌≤◌, Float, length, arith}
use Rattle.laws.specs.Overwrite.{overwrite}
use Rattle.laws.proofs.Overwrite.{length-overwrite}
use Rattle.surface.specs.declared.grid.Chain.{Chain}
use Rattle.vec3.specs.Points.{point_in}
use Rattle.vec3.specs.declared.points.Point.{Point}
use Rattle.curve.specs.Segments.{directions_of}
use Rattle.curve.proofs.Table.{table-direction}
use Rattle.swept_bodies.specs.Tables.{DirectionTable}

pub written-table : (chain : Chain) (count : ℕ) (c : List Float) (t₀ : List Point) {t : List Point} → count ≤ length t₀
    → t ≡ overwrite 0 (directions_of chain count c) t₀ → DirectionTable chain count c t
written-table chain count c t₀ h whole =
    record {
      room = omega (arith, ap length whole, length-overwrite 0 (directions_of chain count c) t₀);
      direction = λ k l. ap (λ (t : List Point). point_in t k) whole ∙ table-direction chain count c t₀ k h l;
    }
