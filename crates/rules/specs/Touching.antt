-- Document 01, "Touching".
use Rattle.std.specs.Prelude.{Bool, true, false, ◌||◌, ℤ}
use mathlib.Core.List.{List, [], ◌∷◌, map, flat_map}
use Rattle.integers.specs.Order.{eq_z}
use Rattle.rules.specs.Keyed.{Key}
use Rattle.rules.specs.Rows.{key_of}
use Rattle.rules.specs.Request.{Request, trade, separate, transfer, merge, lineage, give_up, new_day}
use Rattle.rules.specs.Merge.{pairs_of, is_among}
use Rattle.rules.specs.Refusal.{any_of}
use Rattle.rules.specs.Call.{Call, one, trades, replay, reportable, requests_of}

-- "A request's ids are all it names, new ones included"; of a step of a give-up "the process id among the ids": one set (document 02, K3)
unfoldable pub ids_of : Request → List ℤ
ids_of (trade id account series side quantity price) = id ∷ []
ids_of (separate id suffix account series parts) = id ∷ []
ids_of (transfer id suffix from to series) = id ∷ []
ids_of (merge id account series pairs) = id ∷ map (λ (k : Key). k.major) (pairs_of pairs)
ids_of (lineage id suffix) = id ∷ []
ids_of (give_up step process id suffix giving taking series) = process ∷ id ∷ []
ids_of (new_day day) = []

-- "its positions are each account it names with its series"; "Lineage is a request here and has no position."
unfoldable pub positions_of : Request → List Key
positions_of (trade id account series side quantity price) = key_of account series ∷ []
positions_of (separate id suffix account series parts) = key_of account series ∷ []
positions_of (transfer id suffix from to series) = key_of from series ∷ key_of to series ∷ []
positions_of (merge id account series pairs) = key_of account series ∷ []
positions_of (lineage id suffix) = []
positions_of (give_up step process id suffix giving taking series) = key_of giving series ∷ key_of taking series ∷ []
positions_of (new_day day) = []

unfoldable pub is_named_in : ℤ → List ℤ → Bool
is_named_in id [] = false
is_named_in id (e ∷ rest) = eq_z id e || is_named_in id rest

unfoldable pub share_id : List ℤ → List ℤ → Bool
share_id [] others = false
share_id (id ∷ rest) others = is_named_in id others || share_id rest others

unfoldable pub share_position : List Key → List Key → Bool
share_position [] others = false
share_position (k ∷ rest) others = is_among k others || share_position rest others

-- Document 02, K8, of a new day and of the list: they "touch everything in demand 3"
unfoldable pub touches_all : Request → Bool
touches_all (trade id account series side quantity price) = false
touches_all (separate id suffix account series parts) = false
touches_all (transfer id suffix from to series) = false
touches_all (merge id account series pairs) = false
touches_all (lineage id suffix) = false
touches_all (give_up step process id suffix giving taking series) = false
touches_all (new_day day) = true

-- "Two requests touch if they share an id or a position."
unfoldable pub touch : Request → Request → Bool
touch a b = (touches_all a || touches_all b) || (share_id (ids_of a) (ids_of b) || share_position (positions_of a) (positions_of b))

-- Document 02, K1: a batch "names all their ids and positions", those of its trades.
unfoldable pub call_ids : Call → List ℤ
call_ids c = flat_map ids_of (requests_of c)

unfoldable pub call_positions : Call → List Key
call_positions c = flat_map positions_of (requests_of c)

-- The list touches everything, and so does a text with a line that does.
unfoldable pub call_touches_all : Call → Bool
call_touches_all (one r) = touches_all r
call_touches_all (trades figures cells) = false
call_touches_all (replay text) = any_of (map touches_all (requests_of (replay text)))
call_touches_all (reportable cells) = true

unfoldable pub calls_touch : Call → Call → Bool
calls_touch a b = (call_touches_all a || call_touches_all b) || (share_id (call_ids a) (call_ids b) || share_position (call_positions a) (call_positions b))
