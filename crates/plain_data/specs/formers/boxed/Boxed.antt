-- How a `Boxed` stores its value, so that a type may reach itself through it: its one field is a std `Box`, whose
-- pointer and allocator stay as they are where the value is mapped.
use mathlib.Core.Path.{refl}
use mathlib.Core.Former.{Former, this, const, pair, via}
use base.Stored.{gnil}
use base.Fml.{ftrue}
use denote.RattleType.{RattleType}
use denote.Memory.{part_of}
use denote.RawPtr.{Ptr}
use denote.Sharing.{nothing}
use denote.HoleLaws.{Alike}
use denote.HolePlaces.{Recodes, struct_places, laid, one_value}
use denote.Hole.Fix.{over}
use denote.Param.Weighed.{Weighed}
use denote.Model.Placed.{view_places}
use Rattle.std.specs.declared.boxed.Box.{Box}
use Rattle.std.specs.contracts.boxed.Box as std_box
use Rattle.std.specs.declared.alloc.Global.{Global}
use Rattle.std.specs.contracts.alloc.Global as std_global
use Rattle.std.specs.contracts.impls.GlobalAllocator.TheImpl.{ghosts}
use Rattle.plain_data.specs.declared.boxed.Boxed.TheInside.{Inside}
use Rattle.plain_data.specs.declared.boxed.Boxed.TheView.{view, invariant}
use Rattle.plain_data.specs.contracts.boxed.Boxed as boxed
use Rattle.plain_data.specs.contracts.boxed.Boxed.TheInside as inside

-- a box has the shape of the value that it holds
abbrev pub the_former : Former {0} → Former {0}
the_former held = held

abbrev pub the_weighed : {held : Former {0}} → Weighed held → Weighed (the_former held)
the_weighed weighed = weighed

-- the fields: a pointer and an allocator, and the value
abbrev stored : Former {0}
stored =
    via (pair (const (Ptr × Global)) this) Inside (λ X fields. ((fields.held.ptr, fields.held.alloc), fields.held.value))
    (λ X parts. record { held = record { ptr = parts.0.0; alloc = parts.0.1; value = parts.1 } })
    (λ X fields. refl) (λ X parts. refl)

-- the same std box, with another value
abbrev exchanged : {X Y : Type 0} → Box X Global → Y → Box Y Global
exchanged b value = record { ptr = b.ptr; alloc = b.alloc; value = value }

abbrev std_box_of : RattleType → RattleType
std_box_of R = std_box.the_row R std_global.the_row ghosts

module _ (R S : RattleType) (h : R.Denot → S.Denot) where
  std_places : Alike R S h → Alike (std_box_of R) (std_box_of S) (λ b. exchanged b (h b.value))
  unfolding part_of
  std_places alike = record {
    mir_same = λ i. (std_box_of (one_value R (alike.mir_same i) (λ _. ftrue) (λ _ _. nothing) gnil)).mir;
    own_same = λ b i. (std_box_of (one_value R (alike.mir_same i) (alike.own_same b.value i) (alike.shr_same b.value i) gnil)).own_val (exchanged b tt);
    shr_same = λ b i. (std_box_of (one_value R (alike.mir_same i) (alike.own_same b.value i) (alike.shr_same b.value i) gnil)).shr_at (exchanged b tt);
  }

  pub the_places : Alike R S h → Alike (boxed.the_row R) (boxed.the_row S) ((the_former this).map R.Denot S.Denot h)
  the_places alike =
      view_places stored this view (λ X Y k u. refl) (λ X u. refl) R.Denot S.Denot h (boxed.the_row R).coded (boxed.the_row S).coded
      (invariant R.Denot) (invariant S.Denot) (λ u p q. refl) (λ u p q. refl) (λ u e. tt) (λ u e. tt)
      (over (inside.the_row R)) (over (inside.the_row S))
      (struct_places (inside.the_type R) (inside.the_type S) ((λ b. exchanged b (h b.value)), tt) _ (λ d. refl) refl
      (laid _ _ _ (std_places alike), tt))

  pub the_codes_placed : Recodes R S h → Recodes (boxed.the_row R) (boxed.the_row S) ((the_former this).map R.Denot S.Denot h)
  the_codes_placed recodes d = recodes d
