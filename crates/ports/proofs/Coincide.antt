-- No promise leaves freedom: two results that one allows for the same inputs coincide, the answer, the state and every lent byte.
use mathlib.Core.Path.{◌≡◌, refl, sym, ap, ◌∙◌}
use mathlib.Core.Bool.{Bool, true, false}
use mathlib.Core.List.{List}
use Prim.Native.Nat.{ℕ}
use denote.Ref.{Bor}
use Rattle.lcd.specs.Pictures.{pictures}
use Rattle.std.specs.Prelude.{Result}
use Rattle.refusals.specs.declared.Refusal.{Refusal}
use Rattle.refusals.proofs.Tells.{answer_tells, done_tells}
use Rattle.sprite.specs.Pick.{pick_of, Picked}
use Rattle.state.specs.declared.State.{State}
use Rattle.ports.specs.Calls.{read_answer, colour_answer, VramWrite, OamWrite, OamBug, shows, Shown}
use Rattle.ports.specs.Answers.{Answer, ReadAnswer, answered, value_of, read_answered}
use Rattle.ports.proofs.Answers.{same_answer}

-- two that equal a third
pub one : {A : Type 0} {x y z : A} → x ≡ z → y ≡ z → x ≡ y
one p q = p ∙ sym q

pub read_coincides : (s : State) (address : ℕ) {r q : ReadAnswer} → r ≡ read_answer s address → q ≡ read_answer s address → r ≡ q
read_coincides s address = one

pub colour_coincides : (s : State) (flag : Bool) {r q : Answer} → r ≡ colour_answer s flag → q ≡ colour_answer s flag → r ≡ q
colour_coincides s flag = one

pub vram_coincides : {s : State} {vram x y : List ℕ} {address value : ℕ} {r q : Answer}
    → VramWrite s vram address value r x → VramWrite s vram address value q y → (r ≡ q) × (x ≡ y)
vram_coincides e f =
    (same_answer (one e.number f.number) (one e.state f.state), one e.written f.written)

pub oam_coincides : {oam x y : List ℕ} {address value r q : ℕ}
    → OamWrite oam address value r x → OamWrite oam address value q y → (r ≡ q) × (x ≡ y)
oam_coincides e f = (one e.number f.number, one e.written f.written)

pub oam_bug_coincides : {kind : ℕ} {s : State} {oam x y : List ℕ} {r q : Answer}
    → OamBug kind s oam r x → OamBug kind s oam q y → (r ≡ q) × (x ≡ y)
oam_bug_coincides e f =
    (same_answer (one e.number f.number) (one e.state f.state), one e.corrupted f.corrupted)

-- the picture shown: the same bytes at the same place, which is all of a part that a machine can see; a picture given is one reference
pub shown_coincides : {s : State} {a b r q : Bor (List ℕ)} → Shown s a b r → Shown s a b q
    → (r.ref_ptr ≡ q.ref_ptr) × (r.now ≡ q.now)
shown_coincides {s} {a} {b} {r} {q} e f = by (shows s (pictures a.now b.now)) refl
  where
    by : (v : Bool) → shows s (pictures a.now b.now) ≡ v → (r.ref_ptr ≡ q.ref_ptr) × (r.now ≡ q.now)
    by true t = let z = one (e.picture t) (f.picture t) in (ap (λ x. x.ref_ptr) z, ap (λ x. x.now) z)
    by false t =
        (one (e.empty t).place (f.empty t).place, one (e.empty t).bytes (f.empty t).bytes)

pub pick_coincides : (oam : List ℕ) (line tall : ℕ) {r q : Picked} → r ≡ pick_of oam line tall → q ≡ pick_of oam line tall → r ≡ q
pick_coincides oam line tall = one

-- and an answer of the code is told by what its promise speaks of; that of a pick by `picked_tells` of `sprite`
pub answered_tells : (r q : Result (Unit {0}) Refusal) (s t : State) → answered r s ≡ answered q t → (r ≡ q) × (s ≡ t)
answered_tells r q s t e =
    (done_tells r q (ap (λ (x : Answer). x.number) e), ap (λ (x : Answer). x.state) e)

pub read_tells : (r q : Result ℕ Refusal) (s t : State) → read_answered r s ≡ read_answered q t → (r ≡ q) × (s ≡ t)
read_tells r q s t e = (
  answer_tells value_of (λ x y d. d) r q (ap (λ (x : ReadAnswer). x.number) e) (ap (λ (x : ReadAnswer). x.value) e),
  ap (λ (x : ReadAnswer). x.state) e,
)
