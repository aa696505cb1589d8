-- Every refusal has a number above 0, so that a cause by number 0 is none.
use Rattle.std.proofs.Common.{◌≡◌, arith}
use Rattle.market.specs.Causes.{cause}
use Rattle.market.specs.declared.refusal.Refusal.{Refusal}
use Rattle.market.specs.declared.refusal.Refusal.TheVariants.{
  FileSize,
  Contents,
  FileLength,
  BodyLength,
  FiledField,
  Value,
  TimeBelowLast,
  TimeOutside,
  EntryNumber,
  OutsideCollar,
  BookFull,
  NoSuchOrder,
  AllotmentShort,
  NotInStage,
}

pub above_none : (e : Refusal) → (cause e).number ≡ 0 → ⊥
above_none FileSize h = omega arith
above_none Contents h = omega arith
above_none FileLength h = omega arith
above_none (BodyLength b) h = omega arith
above_none (FiledField b) h = omega arith
above_none Value h = omega arith
above_none TimeBelowLast h = omega arith
above_none TimeOutside h = omega arith
above_none EntryNumber h = omega arith
above_none OutsideCollar h = omega arith
above_none BookFull h = omega arith
above_none NoSuchOrder h = omega arith
above_none AllotmentShort h = omega arith
above_none NotInStage h = omega arith
