-- A font that was made by hand, at its design size of 16pt, at which its numbers are sizes in sp. In points: a is 4 wide, 3 high and 1
-- deep, and its successors are b (6, with an italic correction of 1; 5, 3) and c, with a recipe of the top e (5; 2, 0), the middle f (5;
-- 2, 2), the bottom g (5; 1, 2) and the repeated h (5 and 1; 1, 1); d has the same recipe without a middle; i is 2 wide and 6 high, and
-- its successors are j (5 and 1; 7, 0) and k (9; 8, 0); l is 6 wide, 4 high and 1 deep, m 6 wide and 8 high, and a kern of 1 stands
-- between both; n is 5 wide, 1 high and 3 deep, and its successor o 9 deep. Its x-height is 5, its axis 2, lines are 1 thick, and its
-- parameters 8 to 21 are 1, 2, 3, 4, 5, 6, 3, 2, 1, 2, 1, 1, 20, 6. m is its \skewchar.
use Rattle.std.proofs.Common.{ℕ, ℤ, pos, List, [], ◌∷◌, ◌*◌}
use Rattle.tx_tfm.specs.declared.metrics.Metrics.{Metrics}
use Rattle.tx_tfm.specs.declared.state.FontState.{FontState}
use Rattle.tx_tfm.specs.Fonts.{loaded_state, null_state}
use Rattle.tx_tfm.specs.Format.{tfm_of}

abbrev pub metric_file : List ℕ
metric_file =
    0 ∷ 72 ∷ 0 ∷ 2 ∷ 0 ∷ 97 ∷ 0 ∷ 111 ∷ 0 ∷ 7 ∷ 0 ∷ 9 ∷ 0 ∷ 5 ∷ 0 ∷ 2 ∷ 0 ∷ 1 ∷ 0 ∷ 1 ∷ 0 ∷ 2 ∷ 0 ∷ 22 ∷ 0 ∷ 0 ∷ 0 ∷ 0 ∷ 1 ∷ 0 ∷ 0 ∷ 0 ∷
    3 ∷ 49 ∷ 2 ∷ 98 ∷ 5 ∷ 83 ∷ 6 ∷ 99 ∷ 1 ∷ 16 ∷ 3 ∷ 0 ∷ 1 ∷ 16 ∷ 3 ∷ 1 ∷ 4 ∷ 32 ∷ 0 ∷ 0 ∷ 4 ∷ 34 ∷ 0 ∷ 0 ∷ 4 ∷ 18 ∷ 0 ∷ 0 ∷ 4 ∷ 17 ∷ 4 ∷ 0 ∷
    2 ∷ 96 ∷ 2 ∷ 106 ∷ 4 ∷ 112 ∷ 6 ∷ 107 ∷ 6 ∷ 128 ∷ 0 ∷ 0 ∷ 5 ∷ 65 ∷ 1 ∷ 0 ∷ 5 ∷ 128 ∷ 0 ∷ 0 ∷ 4 ∷ 19 ∷ 2 ∷ 111 ∷ 4 ∷ 20 ∷ 0 ∷ 0 ∷ 0 ∷ 0 ∷ 0 ∷ 0 ∷
    0 ∷ 1 ∷ 0 ∷ 0 ∷ 0 ∷ 2 ∷ 0 ∷ 0 ∷ 0 ∷ 4 ∷ 0 ∷ 0 ∷ 0 ∷ 5 ∷ 0 ∷ 0 ∷ 0 ∷ 6 ∷ 0 ∷ 0 ∷ 0 ∷ 9 ∷ 0 ∷ 0 ∷ 0 ∷ 0 ∷ 0 ∷ 0 ∷ 0 ∷ 1 ∷ 0 ∷ 0 ∷
    0 ∷ 2 ∷ 0 ∷ 0 ∷ 0 ∷ 3 ∷ 0 ∷ 0 ∷ 0 ∷ 4 ∷ 0 ∷ 0 ∷ 0 ∷ 5 ∷ 0 ∷ 0 ∷ 0 ∷ 6 ∷ 0 ∷ 0 ∷ 0 ∷ 7 ∷ 0 ∷ 0 ∷ 0 ∷ 8 ∷ 0 ∷ 0 ∷ 0 ∷ 0 ∷ 0 ∷ 0 ∷
    0 ∷ 1 ∷ 0 ∷ 0 ∷ 0 ∷ 2 ∷ 0 ∷ 0 ∷ 0 ∷ 3 ∷ 0 ∷ 0 ∷ 0 ∷ 9 ∷ 0 ∷ 0 ∷ 0 ∷ 0 ∷ 0 ∷ 0 ∷ 0 ∷ 1 ∷ 0 ∷ 0 ∷ 128 ∷ 109 ∷ 128 ∷ 0 ∷ 0 ∷ 1 ∷ 0 ∷ 0 ∷
    101 ∷ 102 ∷ 103 ∷ 104 ∷ 101 ∷ 0 ∷ 103 ∷ 104 ∷ 0 ∷ 0 ∷ 0 ∷ 0 ∷ 0 ∷ 0 ∷ 0 ∷ 0 ∷ 0 ∷ 0 ∷ 0 ∷ 0 ∷ 0 ∷ 0 ∷ 0 ∷ 0 ∷ 0 ∷ 5 ∷ 0 ∷ 0 ∷ 0 ∷ 18 ∷ 0 ∷ 0 ∷
    0 ∷ 0 ∷ 0 ∷ 0 ∷ 0 ∷ 1 ∷ 0 ∷ 0 ∷ 0 ∷ 2 ∷ 0 ∷ 0 ∷ 0 ∷ 3 ∷ 0 ∷ 0 ∷ 0 ∷ 4 ∷ 0 ∷ 0 ∷ 0 ∷ 5 ∷ 0 ∷ 0 ∷ 0 ∷ 6 ∷ 0 ∷ 0 ∷ 0 ∷ 3 ∷ 0 ∷ 0 ∷
    0 ∷ 2 ∷ 0 ∷ 0 ∷ 0 ∷ 1 ∷ 0 ∷ 0 ∷ 0 ∷ 2 ∷ 0 ∷ 0 ∷ 0 ∷ 1 ∷ 0 ∷ 0 ∷ 0 ∷ 1 ∷ 0 ∷ 0 ∷ 0 ∷ 20 ∷ 0 ∷ 0 ∷ 0 ∷ 6 ∷ 0 ∷ 0 ∷ 0 ∷ 2 ∷ 0 ∷ 0 ∷ []

abbrev pub metrics_d : Metrics
metrics_d = record { file = tfm_of metric_file; size = 1048576 }

abbrev pub fonts : List FontState
fonts = null_state ∷ loaded_state (record { name = 100 ∷ []; font = metrics_d }) (pos 45) (pos 109) ∷ []

-- a size in points
abbrev pub pt : ℕ → ℤ
pt n = pos (n * 65536)
