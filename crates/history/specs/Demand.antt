-- Demand 3: the statements, of any run, and at the end the one record that has them all, `Demand3`; proofs/All proves it
-- (`demand_3`). A run is any list of turns, accepted and refused, from the world after an accepted start (Run, Stored); `since` is
-- what it stored since the latest of start, swap and blanking. What a caller holds in hand is what Public says of the functions.
--
--     statement         proved in               by
--     1 Never2          proofs/Demand           never_2
--     2 Answered        proofs/Answered         answered
--     3 Counted         proofs/Demand           counted
--     4 EndsInTime      proofs/Demand           ends_in_time_law
--     5 EmptyAtOrigin   proofs/Demand           empty_at_origin_law
--     6 EachOnce        proofs/Frame            each_once_law
--     7 Marked          proofs/Demand           marked
--     8 Torn            proofs/Torn             torn
--     9 PictureGiven    proofs/Answered         picture_given_law
--     10 Independent    proofs/Alike            independent
--     11 EveryNumber    proofs/Exists           every_number_law
--     12 Reached        proofs/Exists           reached
--     13 Begun          proofs/Exists           begun_frame
--     14 MarkedUnseen   proofs/Unseen           marked_unseen_law
--     15 FirstPicture   proofs/Unseen           first_picture_law
--     16 Unshown        proofs/Exists           unshown
use Rattle.std.specs.Prelude.{ℕ, ◌≤◌, ◌<◌, ◌≡◌, ◌↔◌, Bool, true, not, cond, ◌&&◌, eqb, length, replicate}
use mathlib.Core.List.{List, [], ◌∷◌, ◌++◌, Memᴰ}
use Rattle.std.specs.Borrow.{Bor}
use Rattle.hardware.specs.Screen.{places}
use Rattle.hardware.specs.declared.Machine.{Machine}
use Rattle.lcd.specs.Pictures.{Pictures, PicturesSized, SameLengths, chosen}
use Rattle.state.specs.With.{mode_of}
use Rattle.beam.specs.Marks.{is_yes}
use Rattle.beam.specs.declared.Mark.TheVariants.{No, Unseen}
use Rattle.step.specs.Step.{lit}
use Rattle.ppu.specs.Answers.{StepAnswer}
use Rattle.history.specs.Run.{World, Call, write, number, Turn, ours, stepping, number_of, perform, fresh_world, swapped, blanked}
use Rattle.history.specs.Public.{answer, shown_picture, Stepped, Pictured}
use Rattle.history.specs.Stored.{Trace, through, go, trace, begun, numbers, from, all_bytes}

-- turns from an accepted start of any machine
abbrev pub ran : Machine → List Turn → Trace
ran machine turns = trace turns (begun (fresh_world machine))

-- of every run: any machine, any turns
abbrev pub EveryRun : (Trace → Type 0) → Type 0
EveryRun P = (machine : Machine) (before : List Turn) → P (ran machine before)

-- of every step that may follow a run, with what it answered
abbrev pub EveryStep : (ℕ → Trace → StepAnswer → Type 0) → Trace → Type 0
EveryStep P t = (n : ℕ) (r : StepAnswer) (left : World) → Stepped n t.world r left → P n t r

-- line 0, cycle 0
pub record AtOrigin (w : World) : Type 0 where
  pub line : w.state.beam.line ≡ 0
  pub cycle : w.state.beam.cycle ≡ 0

-- no turn of them switches the display off
unfoldable pub stays_on : List Turn → Trace → Bool
stays_on [] t = true
stays_on (c ∷ rest) t = not (blanked c t.world) && stays_on rest (go c t)

-- no turn of them swaps
unfoldable pub stays_hidden : List Turn → Trace → Bool
stays_hidden [] t = true
stays_hidden (c ∷ rest) t = not (swapped c t.world) && stays_hidden rest (go c t)

-- 1. never 2: no call on what a run handed back is refused as out of order
abbrev pub Never2 : Type 0
Never2 = EveryRun (λ (t : Trace). (c : Call) → number c t.world ≡ 2 → ⊥)

-- 2. the report in the caller's hand is `answer` where the step is accepted; it says that it swapped exactly if the run did
pub record Told (n : ℕ) (t : Trace) (r : StepAnswer) : Type 0 where
  pub report : r.number ≡ 0 → r.report ≡ answer n t.world
  pub swap : r.report.swapped ≡ swapped (stepping n) t.world

abbrev pub Answered : Type 0
Answered = EveryRun (EveryStep Told)

-- 3. the count, in the state and in the answer of every accepted step, is the number of places stored, at most 23,040
pub record Counts (t : Trace) : Type 0 where
  pub most : length t.since ≤ places
  pub state : t.world.state.beam.count ≡ length t.since
  pub answers : EveryStep (λ (n : ℕ) (u : Trace) (r : StepAnswer). r.number ≡ 0 → r.report.count ≡ length (through (stepping n) u)) t

abbrev pub Counted : Type 0
Counted = EveryRun Counts

-- 4. each line ends in time: mode 3 is over at cycle 284 of its line
abbrev pub InTime : World → Type 0
InTime w = mode_of w.state.regs.stat ≡ 3 → (80 < w.state.beam.cycle) × (w.state.beam.cycle < 284)

-- from line 0, cycle 0, never switched off
abbrev pub EndsInTime : Type 0
EndsInTime =
    EveryRun (λ (t : Trace). (after : List Turn) → AtOrigin t.world → stays_on after t ≡ true → InTime (trace after t).world)

-- 5. at line 0, cycle 0 nothing is stored yet
abbrev pub EmptyAtOrigin : Type 0
EmptyAtOrigin = EveryRun (λ (t : Trace). AtOrigin t.world → t.since ≡ [])

-- 6. each place once: up to a step that swaps the places stored are 0 to 23,039, rising, and the picture shown after the swap
-- holds exactly their bytes
pub record Frame (n : ℕ) (t : Trace) : Type 0 where
  pub once : numbers (through (stepping n) t) ≡ from 0 places
  pub shown : shown_picture (perform (stepping n) t.world) ≡ all_bytes (through (stepping n) t)

-- after any turns that neither switch the display off nor swap
abbrev pub Once : Trace → Type 0
Once t =
    (after : List Turn) (n : ℕ) → stays_on after t ≡ true → stays_hidden after t ≡ true
    → swapped (stepping n) (trace after t).world ≡ true → Frame n (trace after t)

-- whatever stands in the pictures
abbrev pub repainted : Trace → Pictures → Trace
repainted t p = record { world = record { state = t.world.state; tables = t.world.tables; pictures = p }; since = t.since }

-- from line 0, cycle 0
abbrev pub EachOnce : Type 0
EachOnce = EveryRun (λ (t : Trace). (p : Pictures) → PicturesSized p → AtOrigin t.world → Once (repainted t p))

-- 7. at every step that swaps, the mark in the caller's hand is yes (whole, or whole but unseen) exactly if every place was stored
abbrev pub AllStored : ℕ → Trace → Type 0
AllStored n t = (k : ℕ) → k < places → Memᴰ k (numbers (through (stepping n) t))

abbrev pub MarkedYes : ℕ → Trace → StepAnswer → Type 0
MarkedYes n t r = (is_yes r.report.mark ≡ true) ↔ AllStored n t

abbrev pub Marked : Type 0
Marked = EveryRun (EveryStep (λ (n : ℕ) (t : Trace) (r : StepAnswer). r.report.swapped ≡ true → MarkedYes n t r))

-- 8. a picture torn by a switch-off: after a blanking with LCD x not 0, whatever is done short of another blanking, the mark of
-- the next swap is no
abbrev pub TornFrom : Trace → Type 0
TornFrom t =
    (after : List Turn) → stays_on after t ≡ true → stays_hidden after t ≡ true
    → EveryStep (λ (n : ℕ) (u : Trace) (r : StepAnswer). r.report.swapped ≡ true → r.report.mark ≡ No) (trace after t)

abbrev pub Torn : Type 0
Torn =
    EveryRun (λ (t : Trace). (c : Turn) → blanked c t.world ≡ true → (t.world.state.beam.x ≡ 0 → ⊥) → TornFrom (go c t))

-- 9. a picture asked for is always given: the very one lent, with the bytes of the picture shown
pub record Given (w : World) (a b r : Bor (List ℕ)) : Type 0 where
  pub lent : r ≡ chosen w.state.beam.shown a b
  pub bytes : r.now ≡ shown_picture w

abbrev pub PictureGiven : Type 0
PictureGiven = EveryRun (λ (t : Trace). (a b r : Bor (List ℕ)) → Pictured t.world a b r → Given t.world a b r)

-- 10. what the pictures held does not matter: worlds that differ only there store the same
pub record Alike (w v : World) : Type 0 where
  pub state : w.state ≡ v.state
  pub tables : w.tables ≡ v.tables
  pub pictures : SameLengths w.pictures v.pictures

pub record AlikeRuns (t u : Trace) : Type 0 where
  pub world : Alike t.world u.world
  pub since : t.since ≡ u.since

abbrev pub Independent : Type 0
Independent = (turns : List Turn) (w v : World) → Alike w v → AlikeRuns (trace turns (begun w)) (trace turns (begun v))

-- 11. and not about nothing: every number of 01's table can be given at any turn
pub record Occurs (n : ℕ) (w : World) : Type 0 where
  pub turn : Turn
  pub number : number_of turn w ≡ n

abbrev pub EveryNumber : Type 0
EveryNumber = EveryRun (λ (t : Trace). (n : ℕ) → n ≤ 5 → Occurs n t.world)

-- 12, 13. frames exist: from line 0, cycle 0 with the display on, 17,556 steps of 4 are such a run, the last swaps; and a start
-- is 14 steps of 4 before such a place
pub record Reaches (t : Trace) : Type 0 where
  pub on : stays_on (replicate 17555 (stepping 4)) t ≡ true
  pub hidden : stays_hidden (replicate 17555 (stepping 4)) t ≡ true
  pub swap : swapped (stepping 4) (trace (replicate 17555 (stepping 4)) t).world ≡ true

abbrev pub Reached : Type 0
Reached = EveryRun (λ (t : Trace). AtOrigin t.world → lit t.world.state ≡ true → Reaches t)

pub record Begins (t : Trace) : Type 0 where
  pub origin : AtOrigin t.world
  pub on : lit t.world.state ≡ true

abbrev pub Begun : Type 0
Begun = (machine : Machine) → Begins (go (stepping 4) (ran machine (replicate 13 (stepping 4))))

-- 14. whole, but unseen: a blanking is among the turns, and no swap comes after it
pub record BlankedIn (turns : List Turn) (t : Trace) : Type 0 where
  pub before : List Turn
  pub blanking : Turn
  pub after : List Turn
  pub split : turns ≡ before ++ (blanking ∷ after)
  pub blanks : blanked blanking (trace before t).world ≡ true
  pub hidden : stays_hidden after (go blanking (trace before t)) ≡ true

-- the mark in the caller's hand is unseen exactly at a swap, after a blanking with no swap in between, with every place stored since
-- (since the latest of such blankings: each fills the pictures)
abbrev pub MarkedUnseen : Type 0
MarkedUnseen =
    (machine : Machine) (turns : List Turn)
    → EveryStep (λ (n : ℕ) (t : Trace) (r : StepAnswer).
    (r.report.mark ≡ Unseen) ↔ ((r.report.swapped ≡ true) × BlankedIn turns (begun (fresh_world machine)) × AllStored n t))
    (ran machine turns)

-- 15. for whoever files pictures: the first picture after a blanking is unseen exactly if LCD x was 0 at that blanking, else its
-- mark is no
abbrev pub FirstFrom : ℕ → Trace → Type 0
FirstFrom x t =
    (after : List Turn) → stays_on after t ≡ true → stays_hidden after t ≡ true
    → EveryStep (λ (n : ℕ) (u : Trace) (r : StepAnswer). r.report.swapped ≡ true → r.report.mark ≡ cond (eqb x 0) Unseen No)
    (trace after t)

abbrev pub FirstPicture : Type 0
FirstPicture = EveryRun (λ (t : Trace). (c : Turn) → blanked c t.world ≡ true → FirstFrom t.world.state.beam.x (go c t))

-- 16. and such pictures exist: a start, the display switched off and on, and 17,555 steps of 4; the last swaps, and its mark is
-- unseen
abbrev pub switch_off : Turn
switch_off = ours (write 0xFF40 0x11)

abbrev pub switch_on : Turn
switch_on = ours (write 0xFF40 0x91)

abbrev pub Unshown : Type 0
Unshown =
    (machine : Machine) (r : StepAnswer) (left : World)
    → Stepped 4 (trace (replicate 17554 (stepping 4)) (ran machine (switch_off ∷ switch_on ∷ []))).world r left
    → (r.report.swapped ≡ true) × (r.report.mark ≡ Unseen)

-- all of them
pub record Demand3 : Type 0 where
  pub never2 : Never2
  pub answered : Answered
  pub counted : Counted
  pub ends_in_time : EndsInTime
  pub empty_at_origin : EmptyAtOrigin
  pub each_once : EachOnce
  pub marked : Marked
  pub torn : Torn
  pub picture_given : PictureGiven
  pub independent : Independent
  pub every_number : EveryNumber
  pub reached : Reached
  pub begun : Begun
  pub marked_unseen : MarkedUnseen
  pub first_picture : FirstPicture
  pub unshown : Unshown
