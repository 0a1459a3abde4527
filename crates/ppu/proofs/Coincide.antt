-- No promise leaves freedom: two results that one allows for the same inputs coincide, the answer, the state and every lent byte;
-- the calls of `ports` have theirs there.
use mathlib.Core.Path.{◌≡◌, sym, ap, ◌∙◌}
use Prim.Native.Nat.{ℕ}
use Rattle.hardware.specs.Tables.{Tables}
use Rattle.hardware.specs.declared.Machine.{Machine}
use Rattle.lcd.specs.Pictures.{Pictures}
use Rattle.std.specs.Prelude.{Result, Ok, Err}
use Rattle.refusals.specs.declared.Refusal.{Refusal}
use Rattle.refusals.proofs.Tells.{number_tells, answer_tells, unrefused}
use Rattle.state.specs.declared.State.{State}
use Rattle.ports.specs.Answers.{Answer}
use Rattle.ports.proofs.Answers.{same_answer}
use Rattle.ports.proofs.Coincide.{one}
use Rattle.ppu.specs.Calls.{Start, Step, RegisterWrite}
use Rattle.step.specs.declared.Report.{Report}
use Rattle.ppu.specs.Answers.{StepAnswer}
use Rattle.ppu.specs.Answered.{started, reported, step_answered}
use Rattle.ppu.specs.declared.Refused.{Refused}
use Rattle.ppu.proofs.Answers.{same_step}

pub start_coincides : {m : Machine} {t u v : Tables} {p x y : Pictures} {r q : Answer}
    → Start m t p r u x → Start m t p q v y → (r ≡ q) × (u ≡ v) × (x ≡ y)
start_coincides e f =
    let r = same_answer (one e.number f.number) (one e.state f.state) in
    (r, one e.tables f.tables, one e.pictures f.pictures)

pub step_coincides : {s : State} {t : Tables} {p x y : Pictures} {n : ℕ} {r q : StepAnswer}
    → Step s t p n r x → Step s t p n q y → (r ≡ q) × (x ≡ y)
step_coincides e f =
    let r = same_step (one e.number f.number) (one e.answer f.answer) (one e.state f.state) in
    (r, one e.pictures f.pictures)

pub write_coincides : {s : State} {p x y : Pictures} {address value : ℕ} {r q : Answer}
    → RegisterWrite s p address value r x → RegisterWrite s p address value q y → (r ≡ q) × (x ≡ y)
write_coincides e f =
    let r = same_answer (one e.number f.number) (one e.state f.state) in
    (r, one e.pictures f.pictures)

-- and an answer of the code is told by what its promise speaks of
pub step_tells : (r q : Result Report Refusal) (s t : State) → step_answered r s ≡ step_answered q t → (r ≡ q) × (s ≡ t)
step_tells r q s t e = (
  answer_tells reported (λ x y d. d) r q (ap (λ (x : StepAnswer). x.number) e) (ap (λ (x : StepAnswer). x.report) e),
  ap (λ (x : StepAnswer). x.state) e,
)

same_refused : (v w : Refused) → v.why ≡ w.why → v.state ≡ w.state → v ≡ w
same_refused v w a b =
    ap (λ (why : Refusal). record { why = why; state = v.state }) a ∙ ap (λ (state : State). record { why = w.why; state = state }) b

pub started_tells : (r q : Result State Refused) → started r ≡ started q → r ≡ q
started_tells (Ok s) (Ok t) e = ap Ok (ap (λ (x : Answer). x.state) e)
started_tells (Ok s) (Err w) e = absurd (unrefused w.why (ap (λ (x : Answer). x.number) e))
started_tells (Err v) (Ok t) e = absurd (unrefused v.why (sym (ap (λ (x : Answer). x.number) e)))
started_tells (Err v) (Err w) e =
    ap Err (same_refused v w (number_tells v.why w.why (ap (λ (x : Answer). x.number) e)) (ap (λ (x : Answer). x.state) e))
