-- `draws::Load::next_call`: its four draws are those of a call. Assumes nothing.
use mathlib.Core.Path.{◌≡◌, ◌∙◌}
use mathlib.Core.List.{[], ◌∷◌}
use Prim.Native.Nat.{◌+◌}
use Rattle.load.specs.Load.{replaced}
use Rattle.load.proofs.Drawing.{call_numbers_lem, after_dst, same_index, call_indexed}
use Rattle.load.proofs.draws.Load.next_call.Goals as goal

pub returns : goal.returns
returns c =
    let a = c.args in
    let kind = c.draw-kind.result in
    let count = c.draw-count.result in
    let src = c.draw-src.result in
    let k = c.draw-kind.ensures in
    let n = c.draw-count.ensures in
    let r = c.draw-src.ensures in
    let d = c.draw-drawn.ensures in
    let index = same_index a.stamp _ _ _ _ _ _ _ _ _ k.value k.after n.value n.after r.value r.after d.value d.after in
    let dst : c.replaced-dst.result ≡ replaced kind src c.draw-drawn.result a.self.now.index =
    c.replaced-dst.ensures ∙ (λ i. replaced kind src c.draw-drawn.result (index i)) in
    let step = call_indexed a.stamp _ _ _ _ _ _ _ _ _ k.value k.after n.value n.after r.value r.after d.value d.after in
    record {
      numbers = (λ i. kind ∷ a.stamp ∷ src ∷ dst i ∷ count ∷ [])
          ∙ call_numbers_lem a.stamp _ _ _ _ _ _ _ _ _ k.value k.after n.value n.after r.value r.after d.value d.after;
      state = after_dst a.stamp _ _ _ _ _ _ _ _ _ k.value k.after n.value n.after r.value r.after d.value d.after;
      index = λ i. index i + (c.index_step.ensures ∙ step) i;
    }
