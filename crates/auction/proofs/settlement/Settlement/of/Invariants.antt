use Rattle.std.proofs.Common.{◌≡◌, take}
use Rattle.auction.specs.Rows.{accepted}
use Rattle.auction.specs.Settling.{Small, settled_by}
use Rattle.auction.proofs.settlement.Settlement.of.Given as goal

-- the records passed are settled
abbrev pub invariant-loop-allotment : goal.invariant-loop-allotment
invariant-loop-allotment l =
    (l.settlement ≡ settled_by (accepted l.book) (take l.allotment-index l.records)) × Small l.allotment-index l.settlement
