use Rattle.std.proofs.Common.{arith}
use Rattle.schedule.proofs.Digits.{less_room, a_digit, last_digit}
use Rattle.schedule.proofs.printing.+put_digits.Goals as goal

pub returns-then-n-lt10 : goal.returns-then-n-lt10
returns-then-n-lt10 t c = search a_digit

pub put_digits-next-requires : goal.put_digits-next-requires
put_digits-next-requires t c =
    let (some, fewer) = less_room c.args.room c.args.n c.if-n-lt10.false c.requires.1 in
    (omega arith, (some, fewer, omega arith))

pub returns : goal.returns
returns t c = search last_digit
