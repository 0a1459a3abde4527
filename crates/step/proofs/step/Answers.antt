-- `step::step` meets its contract: the mode that begins, the draws, and the end.
use mathlib.Core.Path.{sym, ◌∙◌}
use Rattle.hardware.specs.Tables.{tables}
use Rattle.lcd.specs.Pictures.{pictures}
use Rattle.step.proofs.Ends.{Begun, begun_tried, begun_none, Before, before_drawn, before_still, taken_on, taken_off}
use Rattle.step.proofs.step.Goals.{Joined-does_draw, Joined-may_begin, then-may_begin, else-may_begin, then-does_draw, else-does_draw}
use Rattle.step.proofs.step.Goals as goal

-- what stands once a mode has begun, or none could
begins_at : (c : Joined-may_begin) → Begun c.args.oam.now c.args.s c.if-may_begin.held c.if-may_begin.n
begins_at c =
    let f = c.requires.0.fine in
    elim c.if-may_begin.branch [
      | then-may_begin w ↦
          rw (w.held-is, w.n-is, w.mode_level-held-then-may_begin.ensures, w.search-n.ensures, w.enter_mode-n.ensures)
          (begun_tried _ _ f (sym c.may_begin.ensures ∙ w.if-may_begin.true))
      | else-may_begin w ↦
          rw (w.held-is, w.n-is, c.mode_level-held.ensures) (begun_none _ _ f (sym c.may_begin.ensures ∙ w.if-may_begin.false))
    ]

-- what stands before the end, drawn or not
stands : (c : Joined-does_draw) → Begun c.args.oam.now c.args.s c.if-may_begin.held c.if-may_begin.n
    → Before c.args.cycles (tables c.args.vram.now c.args.oam.now) c.args.s (pictures c.args.a.now c.args.b.now)
    c.if-may_begin.held c.if-does_draw.n (pictures c.if-does_draw.a c.if-does_draw.b)
stands c begun =
    let t = tables c.args.vram.now c.args.oam.now in
    let p = pictures c.args.a.now c.args.b.now in
    elim c.if-does_draw.branch [
      | then-does_draw w ↦
          rw (w.a-is, w.b-is, w.n-is)
          (before_drawn c.args.cycles t p begun (sym c.does_draw.ensures ∙ w.if-does_draw.true) w.draw_hidden-n.ensures)
      | else-does_draw w ↦
          rw (w.a-is, w.b-is, w.n-is) (before_still c.args.cycles t p begun (sym c.does_draw.ensures ∙ w.if-does_draw.false))
    ]

pub draw_hidden-n-requires : goal.draw_hidden-n-requires
draw_hidden-n-requires c =
    let p = c.requires.0 in
    (p.tables.vram, p.pictures, (begins_at (goal.at.draw_hidden-n-requires c).Joined-may_begin).fine)

pub finish-end-requires : goal.finish-end-requires
finish-end-requires c =
    let s = stands (goal.at.finish-end-requires c).Joined-does_draw (begins_at (goal.at.finish-end-requires c).Joined-may_begin) in
    (s.fine, rw s.same.cycle c.requires.1)

pub returns : goal.returns
returns c =
    taken_off (stands (goal.at.returns c).Joined-does_draw (begins_at (goal.at.returns c).Joined-may_begin)) (sym c.bit.ensures ∙ c.if-bit.false) c.off_report.ensures

pub returns-then-bit : goal.returns-then-bit
returns-then-bit c =
    taken_on (stands (goal.at.returns-then-bit c).Joined-does_draw (begins_at (goal.at.returns-then-bit c).Joined-may_begin)) (sym c.bit.ensures ∙ c.if-bit.true) c.finish-end.ensures
