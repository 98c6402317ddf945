use native.Mathlib.Omega.{arith}
use mathlib.Core.Path.{◌≡◌, refl}
use mathlib.Core.Logic.{⊎_elim}
use Rattle.decoding.proofs.Decoding.{row_at, no_row, the_next, other}
use Rattle.decoding.proofs.decode.Goals as goal

pub returns-in-0 : goal.returns-in-0
returns-in-0 c = let e = row_at 0 _ c.args.d c.args.a c.args.b c.args.i _ refl c.in-0.is in cc

pub returns-then-op-eq1 : goal.returns-then-op-eq1
returns-then-op-eq1 c = let e = row_at 1 _ c.args.d c.args.a c.args.b c.args.i _ refl c.if-op-eq1.true in cc

pub returns-else-op-eq1 : goal.returns-else-op-eq1
returns-else-op-eq1 c = let e = row_at 3 _ c.args.d c.args.a c.args.b c.args.i _ refl (⊎_elim (λ e. absurd (c.if-op-eq1.false e)) (λ e. e) c.in-1.is) in cc

pub returns-in-2 : goal.returns-in-2
returns-in-2 c = let e = row_at 2 _ c.args.d c.args.a c.args.b c.args.i _ refl c.in-2.is in cc

pub returns-in-6 : goal.returns-in-6
returns-in-6 c = let e = row_at 6 _ c.args.d c.args.a c.args.b c.args.i _ refl c.in-6.is in cc

pub returns-in-9 : goal.returns-in-9
returns-in-9 c = let e = row_at 9 _ c.args.d c.args.a c.args.b c.args.i _ refl c.in-9.is in cc

pub returns-in-10 : goal.returns-in-10
returns-in-10 c = let e = row_at 10 _ c.args.d c.args.a c.args.b c.args.i _ refl c.in-10.is in cc

pub returns-in-11 : goal.returns-in-11
returns-in-11 c = let e = row_at 11 _ c.args.d c.args.a c.args.b c.args.i _ refl c.in-11.is in cc

pub returns-then-op-eq4 : goal.returns-then-op-eq4
returns-then-op-eq4 c = let e = row_at 4 _ c.args.d c.args.a c.args.b c.args.i _ refl c.if-op-eq4.true in cc

pub returns-else-op-eq4 : goal.returns-else-op-eq4
returns-else-op-eq4 c = let e = row_at 5 _ c.args.d c.args.a c.args.b c.args.i _ refl (the_next 4 _ (other _ c.in-4-to-5.in_default-own.rest).from4 (omega arith) c.if-op-eq4.false) in cc

pub returns-then-op-eq7 : goal.returns-then-op-eq7
returns-then-op-eq7 c = let e = row_at 7 _ c.args.d c.args.a c.args.b c.args.i _ refl c.if-op-eq7.true in cc

pub returns-else-op-eq7 : goal.returns-else-op-eq7
returns-else-op-eq7 c = let next : c.args.op ≡ 8 = omega arith in let e = row_at 8 _ c.args.d c.args.a c.args.b c.args.i _ refl next in cc

pub returns-in_default : goal.returns-in_default
returns-in_default c = let o = other _ c.in_default.in_default-own.rest in no_row _ _ _ _ _ (omega arith)
