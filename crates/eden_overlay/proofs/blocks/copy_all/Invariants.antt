use Rattle.std.proofs.Common.{◌≡◌, take}
use Rattle.eden_overlay.specs.internal.Blocks.{flat, AllFilled}
use Rattle.eden_overlay.proofs.blocks.copy_all.Given as goal

abbrev pub invariant-loop-block : goal.invariant-loop-block
invariant-loop-block l = record {
  same : flat l.copies.items ≡ flat (take l.block-index l.blocks.items);
  filled : AllFilled l.copies.items;
}
