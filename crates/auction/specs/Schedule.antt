-- The times of the opening auction, in milliseconds after midnight.
use Rattle.std.specs.Prelude.{ℕ, suc}
use Rattle.market.specs.Calls.{last_time}

-- from here on the auction can be locked; before it orders come and go
abbrev pub lock_time : ℕ
lock_time = 34080000

-- from here on the locked auction can be shut; before it orders come
abbrev pub shut_time : ℕ
shut_time = 34190000

-- from here on the shut auction can be crossed
abbrev pub cross_time : ℕ
cross_time = 34200000

-- the end of the day
abbrev pub day_end : ℕ
day_end = suc last_time
