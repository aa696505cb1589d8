-- What each refusal stands for: its number, the layer of the file that found it and the byte, counted from the
-- file's start. Where no file is meant, layer and byte are 0.
use Rattle.std.specs.Prelude.{ℕ}
use Rattle.market.specs.declared.refusal.Refusal.{Refusal}
use Rattle.market.specs.declared.refusal.Refusal.TheVariants.{
  FileSize,
  Contents,
  FileLength,
  BodyLength,
  FiledField,
  Value,
  TimeBelowLast,
  TimeOutside,
  EntryNumber,
  OutsideCollar,
  BookFull,
  NoSuchOrder,
  AllotmentShort,
  NotInStage,
}

pub record Cause : Type 0 where
  pub number : ℕ
  pub layer : ℕ
  pub byte : ℕ

abbrev pub at : (number layer byte : ℕ) → Cause
at n l b = record { number = n; layer = l; byte = b }

abbrev pub cause : Refusal → Cause
cause FileSize = at 1 1 0
cause Contents = at 2 1 0
cause FileLength = at 3 1 1
cause (BodyLength b) = at 4 2 b
cause (FiledField b) = at 5 3 b
cause Value = at 5 0 0
cause TimeBelowLast = at 6 0 0
cause TimeOutside = at 7 0 0
cause EntryNumber = at 8 0 0
cause OutsideCollar = at 9 0 0
cause BookFull = at 10 0 0
cause NoSuchOrder = at 11 0 0
cause AllotmentShort = at 12 0 0
cause NotInStage = at 13 0 0
