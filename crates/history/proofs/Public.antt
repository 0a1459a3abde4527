-- What the promises of `ppu` say of a call is what specs/Public says of it.
use mathlib.Core.Path.{◌≡◌, refl, sym, ap, ◌∙◌}
use mathlib.Core.Bool.{Bool, true, false, cond, ◌&&◌}
use mathlib.Core.List.{List}
use Prim.Native.Nat.{ℕ, zero, suc}
use borrow.Author.Tests.{eqb-true, eq-eqb, ne_eqb}
use denote.Ref.{Bor}
use lib.ListN.{replicate}
use Rattle.logic.proofs.Both.{split}
use Rattle.refusals.specs.Ladder.{done}
use Rattle.refusals.proofs.Ladder.{lowest_none}
use Rattle.hardware.specs.Tables.{Tables, tables, tables_fit, TablesSized}
use Rattle.hardware.specs.declared.Machine.{Machine}
use Rattle.hardware.proofs.Tables.{tables_sized}
use Rattle.lcd.proofs.Pictures.{pictures_sized}
use Rattle.lcd.specs.Pictures.{Pictures, pictures, pictures_fit, PicturesSized, filled_with, chosen, shown_of}
use Rattle.sprite.specs.Pick.{pick_of, Picked}
use Rattle.state.specs.declared.State.{State}
use Rattle.memory.specs.Fresh.{fresh_state, cleared}
use Rattle.terms.specs.Numbers.{start_number, shown_number}
use Rattle.ports.specs.Calls.{read_answer, colour_answer, VramWrite, OamWrite, OamBug, Shown}
use Rattle.locks.specs.Closed.{closed}
use Rattle.locks.specs.Calls.{LockedVramWrite, LockedOamWrite, locked_vram_read, locked_oam_read}
use Rattle.locks.specs.declared.Memory.TheVariants.{Vram, Oam}
use Rattle.ppu.specs.Calls.{Start, Step, RegisterWrite}
use Rattle.ports.specs.Answers.{Answer}
use Rattle.ppu.specs.Answers.{StepAnswer}
use Rattle.ports.specs.Answers.{ReadAnswer}
use Rattle.history.specs.Run as run
use Rattle.history.specs.Run.{World, Call, step, write, read, colour, bug, shown, pick, number}
use Rattle.history.specs.Run.{locked_vram, locked_oam, read_vram, read_oam}
use Rattle.history.specs.Run.{Deed, steps, writes, colours, stores, nothing, deed, does, ours, perform, fresh_world}
use Rattle.history.specs.Public.{world, Performs, Stepped, Started, Writes, Reads, WritesVram, WritesOam, Colours, Corrupts}
use Rattle.history.specs.Public.{Asks, Picks, WritesLockedVram, WritesLockedOam, ReadsVram, ReadsOam}

-- a state and pictures that one test chooses: those of a deed, or as they were
pictured : (test : Bool) (d : Deed) (w : World) {s : State} {p : Pictures} → (does d w).tables ≡ w.tables
    → s ≡ cond test (does d w).state w.state → p ≡ cond test (does d w).pictures w.pictures
    → world s w.tables p ≡ does (cond test d nothing) w
pictured true d w t s p = λ i. record { state = s i; tables = sym t i; pictures = p i }
pictured false d w t s p = λ i. record { state = s i; tables = w.tables; pictures = p i }

-- tables with one part that one test chooses
tabled : (test : Bool) (w : World) (f : List ℕ → Tables) (x y : List ℕ) {l : List ℕ} → f y ≡ w.tables → l ≡ cond test x y
    → world w.state (f l) w.pictures ≡ does (cond test (stores (f x)) nothing) w
tabled true w f x y t e = ap (λ (z : List ℕ). world w.state (f z) w.pictures) e
tabled false w f x y t e =
    ap (λ (z : List ℕ). world w.state (f z) w.pictures) e ∙ ap (λ (z : Tables). world w.state z w.pictures) t

-- a part that stays either way
stays : {A : Type 0} (test : Bool) {x : A} → x ≡ cond test x x
stays true = refl
stays false = refl

-- a call that does nothing
pub idle : (test : Bool) (w : World) → w ≡ does (cond test nothing nothing) w
idle true w = refl
idle false w = refl

pub rests : (c : Call) (w : World) → deed c w.state w.tables ≡ nothing → w ≡ perform (ours c) w
rests c w d = rw d (idle (done (number c w)) w)

-- a start leaves the fresh world, whatever the lent buffers held, or what was lent as it was
begins : {m : Machine} {t : Tables} {p : Pictures} {r : Answer} {t' : Tables} {p' : Pictures} → Start m t p r t' p'
    → world r.state t' p' ≡ cond (done (start_number t p)) (fresh_world m) (world (fresh_state m) t p)
begins {m} {t} {p} {r} {t'} {p'} d = by (done (start_number t p)) refl
  where
    cleaned : start_number t p ≡ 0 → world (fresh_state m) (cleared t) (filled_with 255 p) ≡ fresh_world m
    cleaned z =
        let fits = split (tables_fit t) _ (lowest_none (tables_fit t && pictures_fit p) true z).sized in
        let lent : TablesSized t = tables_sized fits.0 in
        let drawn : PicturesSized p = pictures_sized fits.1 in
        let v = ap (λ (k : ℕ). replicate {A = ℕ} k 0) lent.vram in
        let o = ap (λ (k : ℕ). replicate {A = ℕ} k 0) lent.oam in
        let a = ap (λ (k : ℕ). replicate {A = ℕ} k 255) drawn.a in
        let b = ap (λ (k : ℕ). replicate {A = ℕ} k 255) drawn.b in
        λ i. world (fresh_state m) (tables (v i) (o i)) (pictures (a i) (b i))

    by : (v : Bool) → done (start_number t p) ≡ v
        → world r.state t' p' ≡ cond v (fresh_world m) (world (fresh_state m) t p)
    by true e =
        let clear : t' ≡ cleared t = (rw e at d.tables) in
        let white : p' ≡ filled_with 255 p = (rw e at d.pictures) in
        (λ i. world (d.state i) (clear i) (white i)) ∙ cleaned (eqb-true _ _ e)
    by false e =
        let same : t' ≡ t = (rw e at d.tables) in
        let kept : p' ≡ p = (rw e at d.pictures) in
        λ i. world (d.state i) (same i) (kept i)

pub start_performs : {m : Machine} {t : Tables} {p : Pictures} {r : Answer} {t' : Tables} {p' : Pictures}
    → Start m t p r t' p' → Started m t p r (world r.state t' p')
start_performs d = record { number = d.number; world = begins d }

pub step_performs : {s : State} {t : Tables} {p : Pictures} {n : ℕ} {r : StepAnswer} {p' : Pictures}
    → Step s t p n r p' → Stepped n (world s t p) r (world r.state t p')
step_performs {s} {t} {p} {n} d =
    let w = world s t p in
    record {
      performs = record { number = d.number; world = pictured (done (number (step n) w)) (steps n) w refl d.state d.pictures };
      report = d.answer;
    }

pub write_performs : {s : State} {p : Pictures} {address value : ℕ} {r : Answer} {p' : Pictures}
    → RegisterWrite s p address value r p' → Writes s p address value r p'
write_performs {s} {p} {address} {value} d t =
    let w = world s t p in
    let test = done (number (write address value) w) in
    record { number = d.number; world = pictured test (writes address value) w refl d.state d.pictures }

-- a read: the answer is given by an equation, and nothing is done
looks : (c : Call) (w : World) {q r : ReadAnswer} → deed c w.state w.tables ≡ nothing → q.number ≡ number c w → q.state ≡ w.state
    → r ≡ q → Performs c w r.number (world r.state w.tables w.pictures)
looks c w d n s e =
    record {
      number = ap (λ (z : ReadAnswer). z.number) e ∙ n;
      world =
          ap (λ (z : ReadAnswer). world z.state w.tables w.pictures) e ∙ ap (λ (z : State). world z w.tables w.pictures) s
          ∙ rests c w d;
    }

pub read_performs : {s : State} {address : ℕ} {r : ReadAnswer} → r ≡ read_answer s address → Reads s address r
read_performs {s} {address} e =
    record {
      performs = λ t p. looks (read address) (world s t p) refl refl refl e;
      value = ap (λ (z : ReadAnswer). z.value) e;
    }

pub colour_performs : {s : State} {flag : Bool} {r : Answer} → r ≡ colour_answer s flag → Colours s flag r
colour_performs {s} {flag} e t p =
    let w = world s t p in
    let test = done (number (colour flag) w) in
    record {
      number = ap (λ (z : Answer). z.number) e;
      world = pictured test (colours flag) w refl (ap (λ (z : Answer). z.state) e) (stays test);
    }

-- a call that changes one table alone, and gives the state back
changes : (c : Call) (w : World) (f : List ℕ → Tables) (x y : List ℕ) {given : ℕ} {s : State} {l : List ℕ}
    → deed c w.state w.tables ≡ stores (f x) → f y ≡ w.tables → given ≡ number c w → s ≡ w.state
    → l ≡ cond (done (number c w)) x y → Performs c w given (world s (f l) w.pictures)
changes c w f x y {l = l} d t n e h =
    record {
      number = n;
      world = ap (λ (z : State). world z (f l) w.pictures) e ∙ rw d (tabled (done (number c w)) w f x y t h);
    }

pub vram_performs : {s : State} {vram vram' : List ℕ} {address value : ℕ} {r : Answer}
    → VramWrite s vram address value r vram' → WritesVram s vram address value r vram'
vram_performs {s} {vram} {address = address} {value} d oam p =
    changes (run.vram address value) (world s (tables vram oam) p) (λ (z : List ℕ). tables z oam) _ _ refl refl d.number d.state
    d.written

pub oam_performs : {oam oam' : List ℕ} {address value number : ℕ}
    → OamWrite oam address value number oam' → WritesOam oam address value number oam'
oam_performs {oam} {address = address} {value} d s vram p =
    changes (run.oam address value) (world s (tables vram oam) p) (tables vram) _ _ refl refl d.number refl d.written

pub bug_performs : {kind : ℕ} {s : State} {oam oam' : List ℕ} {r : Answer}
    → OamBug kind s oam r oam' → Corrupts kind s oam r oam'
bug_performs {kind} {s} {oam} d vram p =
    changes (bug kind) (world s (tables vram oam) p) (tables vram) _ _ refl refl d.number d.state d.corrupted

-- a call that changes one table alone unless a memory is closed, and gives the state back
changes_unless : (c : Call) (w : World) (f : List ℕ → Tables) (b : Bool) (x y : List ℕ) {given : ℕ} {s : State} {l : List ℕ}
    → deed c w.state w.tables ≡ cond b nothing (stores (f x)) → f y ≡ w.tables → given ≡ number c w → s ≡ w.state
    → l ≡ cond (done (number c w)) (cond b y x) y → Performs c w given (world s (f l) w.pictures)
changes_unless c w f true x y {l = l} d t n e h =
    record {
      number = n;
      world =
          ap (λ (z : State). world z (f l) w.pictures) e
          ∙ ap (λ (z : Tables). world w.state z w.pictures) (ap f (h ∙ sym (stays (done (number c w)))) ∙ t)
          ∙ rests c w d;
    }
changes_unless c w f false x y d t n e h = changes c w f x y d t n e h

pub locked_vram_performs : {s : State} {vram vram' : List ℕ} {address value : ℕ} {r : Answer}
    → LockedVramWrite s vram address value r vram' → WritesLockedVram s vram address value r vram'
locked_vram_performs {s} {vram} {address = address} {value} d oam p =
    changes_unless (locked_vram address value) (world s (tables vram oam) p) (λ (z : List ℕ). tables z oam) (closed Vram s) _ _ refl refl
    d.number d.state d.written

pub locked_oam_performs : {s : State} {oam oam' : List ℕ} {address value : ℕ} {r : Answer}
    → LockedOamWrite s oam address value r oam' → WritesLockedOam s oam address value r oam'
locked_oam_performs {s} {oam} {address = address} {value} d vram p =
    changes_unless (locked_oam address value) (world s (tables vram oam) p) (tables vram) (closed Oam s) _ _ refl refl d.number d.state
    d.written

pub read_vram_performs : {s : State} {vram : List ℕ} {address : ℕ} {r : ReadAnswer}
    → r ≡ locked_vram_read s vram address → ReadsVram s vram address r
read_vram_performs {s} {vram} {address} e =
    record { performs = λ oam p. looks (read_vram address) (world s (tables vram oam) p) refl refl refl e; answer = e }

pub read_oam_performs : {s : State} {oam : List ℕ} {address : ℕ} {r : ReadAnswer}
    → r ≡ locked_oam_read s oam address → ReadsOam s oam address r
read_oam_performs {s} {oam} {address} e =
    record { performs = λ vram p. looks (read_oam address) (world s (tables vram oam) p) refl refl refl e; answer = e }

-- the bytes of the picture chosen
chosen_bytes : (k : ℕ) (a b : Bor (List ℕ)) → (chosen k a b).now ≡ shown_of k (pictures a.now b.now)
chosen_bytes zero a b = refl
chosen_bytes (suc k) a b = refl

pub shown_performs : {s : State} {a b r : Bor (List ℕ)} → Shown s a b r → Asks s a b r
shown_performs {s} {a} {b} d t =
    let n = shown_number s (pictures a.now b.now) in
    record {
      given = λ z. d.picture (eq-eqb n 0 z);
      bytes = λ z. ap (λ x. x.now) (d.picture (eq-eqb n 0 z)) ∙ chosen_bytes s.beam.shown a b;
      empty = λ h. d.empty (ne_eqb n 0 h);
      world = idle (done n) _;
    }

pub pick_performs : {oam : List ℕ} {line tall : ℕ} {r : Picked} → r ≡ pick_of oam line tall → Picks oam line tall r
unfolding pick_of
pick_performs {oam} {line} {tall} e =
    record {
      performs = λ s vram p.
          record {
            number = ap (λ (z : Picked). z.number) e;
            world = idle (done (number (pick line tall) (world s (tables vram oam) p))) _;
          };
      picked = e;
    }
