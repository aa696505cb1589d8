-- The order at a place is the one of the record there.
use Rattle.std.proofs.Common.{◌∙◌, arith}
use Rattle.session.specs.Records.{order_at, order_size}
use Rattle.session.proofs.FiledRecords.{length_orders, listed}
use Rattle.session.proofs.resting.listing.FiledBookBook.order.Goals as goal

pub returns-in_err-record : goal.returns-in_err-record
returns-in_err-record c =
    rw c.from_residual.ensures (omega (arith, c.in_err-record.ensures, length_orders c.args.self.now.records.now))

pub returns : goal.returns
returns c =
    let bs = c.args.self.now.records.now in
    let is = c.in_ok-record.ensures in (
      omega (arith, is.2, length_orders bs),
      c.order.ensures ∙ ((λ i. order_at (is.0 i) (is.1 i)) ∙ listed order_size order_at bs c.args.place is.2 _),
    )
