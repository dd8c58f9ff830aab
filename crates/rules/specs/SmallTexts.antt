-- Texts for small cases, byte by byte.
use Rattle.std.specs.Prelude.{ℕ, List, [], ◌∷◌, ◌++◌, pos}
use Rattle.rules.specs.Request.{Request, trade}

-- "P11's trade, each tab shown as |: `T|456789|1|1|1|100|1250000000`": its fields, each with the tab before it, and the newline.
abbrev pub p11_trade : Request
p11_trade = trade (pos 456789) (pos 1) (pos 1) (pos 1) (pos 100) (pos 1250000000)

-- T, id and account, series and side.
abbrev pub trade_begins : List ℕ
trade_begins = 84 ∷ 9 ∷ 52 ∷ 53 ∷ 54 ∷ 55 ∷ 56 ∷ 57 ∷ 9 ∷ 49 ∷ 9 ∷ 49 ∷ 9 ∷ 49 ∷ []

-- 100, and 1250000000.
abbrev pub hundred : List ℕ
hundred = 9 ∷ 49 ∷ 48 ∷ 48 ∷ []

abbrev pub price : List ℕ
price = 9 ∷ 49 ∷ 50 ∷ 53 ∷ 48 ∷ 48 ∷ 48 ∷ 48 ∷ 48 ∷ 48 ∷ 48 ∷ []

-- The trade's line with this text for the quantity and that for the price, each with its tab, and with what follows the price.
abbrev pub trade_line : (quantity price after : List ℕ) → List ℕ
trade_line quantity price after = trade_begins ++ (quantity ++ (price ++ after))

abbrev pub p11_line : List ℕ
p11_line = trade_line hundred price (10 ∷ [])
