-- The sizes of what is lent: a start gives them, and every call keeps them.
use Rattle.std.proofs.Common.{Option}
use mathlib.Core.Path.{◌≡◌, refl, ◌∙◌}
use mathlib.Core.Bool.{true, ◌&&◌}
use mathlib.Core.List.{List, [], ◌∷◌}
use Prim.Native.Nat.{ℕ, zero, suc}
use lib.ListN.{length, length-replicate}
use Rattle.hardware.specs.Screen.{picture_bytes}
use Rattle.logic.proofs.Tests.{by_test}
use Rattle.logic.proofs.Both.{both}
use Rattle.hardware.specs.declared.Machine.{Machine}
use Rattle.hardware.specs.Tables.{tables_fit, TablesSized, vram_bytes, oam_bytes}
use Rattle.hardware.proofs.Tables.{tables_fit_law}
use Rattle.lcd.proofs.Pictures.{pictures_fit_law}
use Rattle.lcd.specs.Pictures.{Pictures, pictures_fit, PicturesSized, SameLengths, filled_with}
use Rattle.registers.specs.Write.{kept, blanks}
use Rattle.burst.specs.Burst.{all_stored, shot_stored, drawn_into}
use Rattle.burst.proofs.Ways.{shot_length}
use Rattle.step.specs.Step.{shots_of}
use Rattle.history.specs.Run.{World, Turn, Deed, steps, writes, colours, stores, nothing, does, deed_of, perform, fresh_world}
use Rattle.order.specs.Fine.{Fine}
use Rattle.history.proofs.Deeds.{Lawful, lawful}
use Rattle.draw.specs.declared.Place.{Place}

-- both tables and both pictures have their length
pub record WorldSized (w : World) : Type 0 where
  pub tables : TablesSized w.tables
  pub pictures : PicturesSized w.pictures

pub fresh_sized : (machine : Machine) → WorldSized (fresh_world machine)
fresh_sized machine =
    record {
      tables = record { vram = length-replicate {A = ℕ} vram_bytes 0; oam = length-replicate {A = ℕ} oam_bytes 0 };
      pictures = record { a = length-replicate {A = ℕ} picture_bytes 255; b = length-replicate {A = ℕ} picture_bytes 255 };
    }

-- what the draws of a step store keeps the length of a picture
stored_length : (picture : List ℕ) (shots : List (Option Place)) → length (all_stored picture shots) ≡ length picture
unfolding all_stored
stored_length picture [] = refl
stored_length picture (shot ∷ rest) = stored_length (shot_stored picture shot) rest ∙ shot_length picture shot

-- the draws of a step, and a blanking
into_lengths : (shown : ℕ) (shots : List (Option Place)) (p : Pictures) → SameLengths (drawn_into shown shots p) p
into_lengths zero shots p = record { a = refl; b = stored_length p.b shots }
into_lengths (suc k) shots p = record { a = stored_length p.a shots; b = refl }

filled_lengths : (p : Pictures) → SameLengths (filled_with 255 p) p
filled_lengths p = record { a = length-replicate {A = ℕ} (length p.a) 255; b = length-replicate {A = ℕ} (length p.b) 255 }

-- every deed keeps the lengths of the pictures, whatever they are
pub does_lengths : (d : Deed) (w : World) → SameLengths (does d w).pictures w.pictures
does_lengths (steps n) w = into_lengths w.state.beam.shown (shots_of n w.tables w.state) w.pictures
does_lengths (writes address value) w =
    by_test (λ (p : Pictures). SameLengths p w.pictures) (blanks w.state.regs address (kept address value))
    (λ e. filled_lengths w.pictures) (λ e. record { a = refl; b = refl })
does_lengths (colours flag) w = record { a = refl; b = refl }
does_lengths (stores t) w = record { a = refl; b = refl }
does_lengths nothing w = record { a = refl; b = refl }

does_tables : (d : Deed) (w : World) → Lawful d w.state → TablesSized w.tables → TablesSized (does d w).tables
does_tables (steps n) w l h = h
does_tables (writes address value) w l h = h
does_tables (colours flag) w l h = h
does_tables (stores t) w l h = l
does_tables nothing w l h = h

pub sized_kept : (c : Turn) (w : World) → Fine w.state → WorldSized w → WorldSized (perform c w)
sized_kept c w f h =
    let same = does_lengths (deed_of c w) w in
    record {
      tables = does_tables (deed_of c w) w (lawful w h.tables f c) h.tables;
      pictures = record { a = same.a ∙ h.pictures.a; b = same.b ∙ h.pictures.b };
    }

-- lent memory of its sizes passes the test for them
pub lent_fits : (w : World) → WorldSized w → tables_fit w.tables && pictures_fit w.pictures ≡ true
lent_fits w h = both (tables_fit_law h.tables) (pictures_fit_law h.pictures)
