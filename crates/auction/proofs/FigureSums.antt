-- The figures, put together from what the price search and the depths answer.
use Rattle.std.proofs.Common.{◌≡◌, ℕ, min, List, ℤ, pos, ◌-ℤ◌, ◌∙◌}
use Rattle.market.specs.declared.order.OrderTerms.{OrderTerms}
use Rattle.market.specs.Ranges.{collar_highest, collar_lowest, twice_middle}
use Rattle.cross.specs.Clearing.{clearing_price}
use Rattle.cross.specs.Passes.{depth_at}
use Rattle.cross.specs.declared.depth.Depth.{Depth}
use Rattle.auction.specs.declared.answer.Figures.{Figures}
use Rattle.auction.specs.Auctions.{Auction, range_high, range_low, whole}
use Rattle.auction.specs.Publishing.{published}

module _ (a : Auction) (filed : List OrderTerms) where
  -- of a depth and prices
  abbrev by_depth : Depth → (reference collar_low collar_high twice : ℕ) → Figures
  by_depth d rp cl ch tw = record {
    reference_price = rp;
    paired_shares = min d.bought d.sold;
    imbalance = pos d.bought -ℤ pos d.sold;
    indicative_price = clearing_price cl ch tw (whole a filed);
    auction_price = clearing_price cl ch tw a.orders;
    collar_lowest = cl;
    collar_highest = ch;
    twice_middle = tw;
  }

  abbrev by_ranges : (low high twice collar_low collar_high : ℕ) → Figures
  by_ranges rl rh tw cl ch =
      by_depth (depth_at rl rh (clearing_price rl rh tw a.orders) a.orders) (clearing_price rl rh tw a.orders) cl ch tw

  pub figures_are : (d : Depth) (rl rh tw cl ch rp ip ap ex : ℕ) (im : ℤ)
      → rl ≡ range_low a
      → rh ≡ range_high a
      → tw ≡ twice_middle rl rh
      → cl ≡ collar_lowest rl rh
      → ch ≡ collar_highest rl rh
      → rp ≡ clearing_price rl rh tw a.orders
      → d ≡ depth_at rl rh rp a.orders
      → ex ≡ min d.bought d.sold
      → im ≡ pos d.bought -ℤ pos d.sold
      → ip ≡ clearing_price cl ch tw (whole a filed)
      → ap ≡ clearing_price cl ch tw a.orders
      → ◌≡◌ {A = Figures}
      (record {
        reference_price = rp;
        paired_shares = ex;
        imbalance = im;
        indicative_price = ip;
        auction_price = ap;
        collar_lowest = cl;
        collar_highest = ch;
        twice_middle = tw;
      })
      (published a filed)
  figures_are d rl rh tw cl ch rp ip ap ex im low high middle lowest highest reference depth paired balance indicative auction =
      let answers : ◌≡◌ {A = Figures}
      (record {
        reference_price = rp;
        paired_shares = ex;
        imbalance = im;
        indicative_price = ip;
        auction_price = ap;
        collar_lowest = cl;
        collar_highest = ch;
        twice_middle = tw;
      })
      (by_depth d rp cl ch tw)
      =
      λ i. record {
        reference_price = rp;
        paired_shares = paired i;
        imbalance = balance i;
        indicative_price = indicative i;
        auction_price = auction i;
        collar_lowest = cl;
        collar_highest = ch;
        twice_middle = tw;
      } in
      let depths : by_depth d rp cl ch tw ≡ by_depth (depth_at rl rh rp a.orders) rp cl ch tw = λ i. by_depth (depth i) rp cl ch tw in
      let prices : by_depth (depth_at rl rh rp a.orders) rp cl ch tw ≡ by_ranges rl rh tw cl ch
      = λ i. by_depth (depth_at rl rh (reference i) a.orders) (reference i) cl ch tw in
      let ranges : by_ranges rl rh tw cl ch ≡ by_ranges rl rh (twice_middle rl rh) (collar_lowest rl rh) (collar_highest rl rh)
      = λ i. by_ranges rl rh (middle i) (lowest i) (highest i) in
      let ends : by_ranges rl rh (twice_middle rl rh) (collar_lowest rl rh) (collar_highest rl rh) ≡ published a filed
      = λ i. by_ranges (low i) (high i) (twice_middle (low i) (high i)) (collar_lowest (low i) (high i)) (collar_highest (low i) (high i)) in
      answers ∙ (depths ∙ (prices ∙ (ranges ∙ ends)))
