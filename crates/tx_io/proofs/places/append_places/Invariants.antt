use Rattle.std.proofs.Common.{◌≡◌, ◌++◌, take, map}
use Rattle.tx_io.specs.Places.{place_in}
use Rattle.tx_io.proofs.places.append_places.Given as goal

-- the places so far are those in the folders so far
abbrev pub invariant-loop-folder : goal.invariant-loop-folder
invariant-loop-folder l = l.places.items ≡ l.initial.places.items ++ map (λ folder. place_in folder.now l.name) (take l.folder-index l.folders)
