use Rattle.std.proofs.Common.{◌≡◌, ◌++◌, drop}
use Rattle.certificates.specs.Reading.{cube_of}
use Rattle.certificates.proofs.cubes.write_cube.Given as goal

-- the literals of the places from here on are left
abbrev pub invariant-loop-place : goal.invariant-loop-place
invariant-loop-place l = l.cube.items ++ cube_of (drop l.place l.named) (drop l.place l.parts) ≡ cube_of l.named l.parts
