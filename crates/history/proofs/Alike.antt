-- Statement 10 of specs/Demand: runs from worlds that differ only in what the pictures hold store the same.
use mathlib.Core.Path.{◌≡◌, refl, sym, ◌∙◌}
use mathlib.Core.List.{List, [], ◌∷◌}
use Rattle.history.specs.Run as run
use Rattle.history.specs.Run.{World, Call, step, write, read, colour, bug, shown, pick, number}
use Rattle.history.specs.Run.{locked_vram, locked_oam, read_vram, read_oam}
use Rattle.history.specs.Run.{Deed, steps, writes, colours, stores, nothing, does, Turn, ours, astray, deed_of, perform}
use Rattle.history.specs.Stored.{Trace, go, trace}
use Rattle.history.specs.Demand.{Alike, AlikeRuns, Independent}
use Rattle.history.proofs.Kept.{does_lengths}

module _ {w v : World} (h : Alike w v) where
  same_number : (c : Call) → number c w ≡ number c v
  same_number (step n) = rw (h.state, h.tables, h.pictures.a, h.pictures.b) refl
  same_number (write address value) = rw (h.state, h.pictures.a, h.pictures.b) refl
  same_number (read address) = rw h.state refl
  same_number (run.vram address value) = rw (h.state, h.tables) refl
  same_number (run.oam address value) = rw h.tables refl
  same_number (colour flag) = rw h.state refl
  same_number (bug kind) = rw (h.state, h.tables) refl
  same_number shown = rw (h.state, h.pictures.a, h.pictures.b) refl
  same_number (pick line tall) = rw h.tables refl
  same_number (locked_vram address value) = rw (h.state, h.tables) refl
  same_number (locked_oam address value) = rw (h.state, h.tables) refl
  same_number (read_vram address) = rw (h.state, h.tables) refl
  same_number (read_oam address) = rw (h.state, h.tables) refl

  -- a deed is found by number, state and tables alone
  same_deed : (c : Turn) → deed_of c w ≡ deed_of c v
  same_deed (ours c) = rw (same_number c, h.state, h.tables) refl
  same_deed (astray c lent e) = refl

  like : (d : Deed) → (does d w).state ≡ (does d v).state → (does d w).tables ≡ (does d v).tables → Alike (does d w) (does d v)
  like d s t =
      let p = does_lengths d w in
      let q = does_lengths d v in
      record {
        state = s;
        tables = t;
        pictures = record { a = p.a ∙ h.pictures.a ∙ sym q.a; b = p.b ∙ h.pictures.b ∙ sym q.b };
      }

  does_alike : (d : Deed) → Alike (does d w) (does d v)
  does_alike (steps n) = like (steps n) (rw (h.state, h.tables) refl) h.tables
  does_alike (writes address value) = like (writes address value) (rw h.state refl) h.tables
  does_alike (colours flag) = like (colours flag) (rw h.state refl) h.tables
  does_alike (stores t) = like (stores t) h.state refl
  does_alike nothing = h

  perform_alike : (c : Turn) → Alike (perform c w) (perform c v)
  perform_alike c = rw (same_deed c) (does_alike (deed_of c v))

go_alike : (c : Turn) {t u : Trace} → AlikeRuns t u → AlikeRuns (go c t) (go c u)
go_alike c {t} {u} h =
    record {
      world = perform_alike h.world c;
      since = rw (same_deed h.world c, h.world.state, h.world.tables, h.since) refl;
    }

trace_alike : (turns : List Turn) {t u : Trace} → AlikeRuns t u → AlikeRuns (trace turns t) (trace turns u)
unfolding trace
trace_alike [] h = h
trace_alike (c ∷ rest) h = trace_alike rest (go_alike c h)

-- 10
pub independent : Independent
independent turns w v h = trace_alike turns (record { world = h; since = refl })
