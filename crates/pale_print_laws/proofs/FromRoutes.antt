-- Routes that a reading makes are canonical, and spelled in no more tokens than they were read from.
use Rattle.std.proofs.Common.{◌+◌, ◌≤◌, length, arith, ◌≡◌, inl, inr, ℕ, true, false, List, ◌∷◌, Some, refl, sym, subst}
use Rattle.pale_syntax.specs.declared.grammar.part.ProgramPart.TheVariants as part
use Rattle.pale_text.specs.declared.token.Token.{Token}
use Rattle.pale_syntax.specs.declared.tree.names.Name.{Name}
use Rattle.pale_syntax.specs.declared.tree.route.Route.{Route, out-Route, roll-Route}
use Rattle.pale_syntax.specs.declared.tree.route.Route.TheVariants as route
use denote.Hole.Carrier.{roll, out}
use Rattle.pale_syntax.specs.MakingParts.{Parts, name_of}
use Rattle.pale_text.specs.Tokens.{place_of}
use Rattle.pale_syntax.specs.MakingRoutes.{joined_then, joined_or, starred}
use Rattle.pale_syntax.specs.ProgramGrammar.{rows_of}
use Rattle.pale_print_laws.specs.CanonicalRoutes.{whole, sequence, repeated, single, IsCanonicalRoute, down, up, up_any, root}
use Rattle.pale_print_laws.specs.CanonicalRoutes.{leaf, is_type, is_variant, is_bool}
use Rattle.pale_print_laws.proofs.NameSizes.{one_less}
use Rattle.pale_print_laws.proofs.RouteSizes.{route_size, route_rises, joined_or_size, joined_then_size, starred_size, size_down}
use Rattle.pale_print_laws.proofs.RouteSizes.{size_up, size_up_any, size_root, size_leaf, size_is_type, size_is_variant}
use Rattle.pale_print_laws.proofs.RouteSizes.{size_is_bool}
use Rattle.pale_print_laws.proofs.FromRows.{Several, no_more, one_more, puts}
use Rattle.pale_print_laws.proofs.FromMade.{RouteMade}
use Rattle.pale_print_laws.proofs.FromMeaning.{program_meaning}
use Rattle.pale_print_laws.proofs.FromParts.{IsSoundRow, AreSoundRows, no_row, or_row, nth, free_name}
use Rattle.pale_print_laws.proofs.FromRoutePlaces.{anywhere, as_whole, as_sequence, as_repeated, or_settled, then_settled, star_settled}

-- ---- chains

alternatives_made : (room : ℕ) (start end : List Token) (several : Several program_meaning part.NextAlternative room start end) (r : Route) →
    IsCanonicalRoute whole room r → (first : List Token) → route_size r 0 + length start ≤ length first →
    (parts : Parts) (below : List Route) →
    (made : RouteMade whole room 0 first end) × (puts program_meaning part.NextAlternative room start end several
    (record parts { routes = r ∷ below }) ≡ record parts { routes = made.route ∷ below })
alternatives_made room start end (no_more _ stops) r c first short parts below = (record { route = r; canonical = c; short = omega arith }, refl)
alternatives_made room start end (one_more _ middle _ one others) r c first short parts below =
    let l = one.short in
    alternatives_made room middle end others (joined_or r one.route) (or_settled c one.canonical) first (omega (arith, joined_or_size r one.route)) parts below

links_made : (room : ℕ) (start end : List Token) (several : Several program_meaning part.NextRepeated room start end) (r : Route) →
    IsCanonicalRoute sequence room r → (first : List Token) → route_size r 1 + length start ≤ length first →
    (parts : Parts) (below : List Route) →
    (made : RouteMade sequence room 0 first end) × (puts program_meaning part.NextRepeated room start end several
    (record parts { routes = r ∷ below }) ≡ record parts { routes = made.route ∷ below })
links_made room start end (no_more _ stops) r c first short parts below = (record { route = r; canonical = c; short = omega arith }, refl)
links_made room start end (one_more _ middle _ one others) r c first short parts below =
    let l = one.short in
    links_made room middle end others (joined_then r one.route) (then_settled c one.canonical) first (omega (arith, joined_then_size r one.route)) parts below

stars_made : (room : ℕ) (start end : List Token) (several : Several program_meaning part.Star room start end) (r : Route) →
    IsCanonicalRoute repeated room r → (first : List Token) → route_size r 2 + length start ≤ length first →
    (parts : Parts) (below : List Route) →
    (made : RouteMade repeated room 0 first end) × (puts program_meaning part.Star room start end several
    (record parts { routes = r ∷ below }) ≡ record parts { routes = made.route ∷ below })
stars_made room start end (no_more _ stops) r c first short parts below = (record { route = r; canonical = c; short = omega arith }, refl)
stars_made room start end (one_more _ middle _ one others) r c first short parts below =
    let l = one.short in
    stars_made room middle end others (starred r one.place) (star_settled c one.place) first (omega (arith, starred_size r one.place)) parts below

route_row : IsSoundRow part.Route (nth (rows_of part.Route) 0)
unfolding rows_of
route_row = record {
  along = λ room last tokens parts goal g before.
      let first = g tt in
      let others = first.3 tt in
      let made =
      alternatives_made room first.1 others.1 others.2 first.2.route (as_whole first.2.canonical) tokens
      (omega (arith, first.2.short, (route_rises first.2.route).to_one)) parts parts.routes in
      (others.0, others.1, made.0, subst (λ q. goal others.0 others.1 q) made.1 others.3);
}

pub route_sound : AreSoundRows part.Route (rows_of part.Route)
unfolding rows_of
route_sound = or_row route_row no_row

next_alternative_row : IsSoundRow part.NextAlternative (nth (rows_of part.NextAlternative) 0)
unfolding rows_of
next_alternative_row = record {
  along = λ room last tokens parts goal g before.
      let made = g.4 tt in
      (made.0, made.1, record { route = made.2.route; canonical = made.2.canonical; short = omega (arith, one_less g.2, made.2.short) }, made.3);
}

pub next_alternative_sound : AreSoundRows part.NextAlternative (rows_of part.NextAlternative)
unfolding rows_of
next_alternative_sound = or_row next_alternative_row no_row

sequence_row : IsSoundRow part.Sequence (nth (rows_of part.Sequence) 0)
unfolding rows_of
sequence_row = record {
  along = λ room last tokens parts goal g before.
      let first = g tt in
      let others = first.3 tt in
      let made =
      links_made room first.1 others.1 others.2 first.2.route (as_sequence first.2.canonical) tokens
      (omega (arith, first.2.short, (route_rises first.2.route).to_two)) parts parts.routes in
      (others.0, others.1, made.0, subst (λ q. goal others.0 others.1 q) made.1 others.3);
}

pub sequence_sound : AreSoundRows part.Sequence (rows_of part.Sequence)
unfolding rows_of
sequence_sound = or_row sequence_row no_row

next_repeated_row : IsSoundRow part.NextRepeated (nth (rows_of part.NextRepeated) 0)
unfolding rows_of
next_repeated_row = record {
  along = λ room last tokens parts goal g before.
      let made = g.4 tt in
      (made.0, made.1, record { route = made.2.route; canonical = made.2.canonical; short = omega (arith, one_less g.2, made.2.short) }, made.3);
}

pub next_repeated_sound : AreSoundRows part.NextRepeated (rows_of part.NextRepeated)
unfolding rows_of
next_repeated_sound = or_row next_repeated_row no_row

repeated_row : IsSoundRow part.Repeated (nth (rows_of part.Repeated) 0)
unfolding rows_of
repeated_row = record {
  along = λ room last tokens parts goal g before.
      let first = g tt in
      let others = first.3 tt in
      let made =
      stars_made room first.1 others.1 others.2 first.2.route (as_repeated first.2.canonical) tokens
      (omega (arith, first.2.short, (route_rises first.2.route).to_three)) parts parts.routes in
      (others.0, others.1, made.0, subst (λ q. goal others.0 others.1 q) made.1 others.3);
}

pub repeated_sound : AreSoundRows part.Repeated (rows_of part.Repeated)
unfolding rows_of
repeated_sound = or_row repeated_row no_row

star_row : IsSoundRow part.Star (nth (rows_of part.Star) 0)
unfolding rows_of
star_row =
    record {
      along = λ room last tokens parts goal g before.
          (Some g.0, g.1, record { place = place_of (Some g.0); short = omega (arith, one_less g.2) }, g.4);
    }

pub star_sound : AreSoundRows part.Star (rows_of part.Star)
unfolding rows_of
star_sound = or_row star_row no_row

-- ---- steps

down_row : IsSoundRow part.Step (nth (rows_of part.Step) 0)
unfolding rows_of
down_row = record {
  along = λ room last tokens parts goal g before.
      let x : Name = name_of (Some g.0) in (
        Some g.0,
        g.1,
        record { route = route.Down x; canonical = down single room x (free_name g.0 g.3); short = omega (arith, size_down x 3, one_less g.2) },
        g.4,
      );
}

up_row : IsSoundRow part.Step (nth (rows_of part.Step) 1)
unfolding rows_of
up_row = record {
  along = λ room last tokens parts goal g before.
      elim (g.4 tt) [
        | inl stopped ↦ (
          Some g.0,
          g.1,
          record { route = route.UpAny; canonical = up_any single room; short = omega (arith, size_up_any 3, one_less g.2) },
          stopped.1,
        )
        | inr named ↦ (
          named.0,
          named.1,
          record {
            route = route.Up named.2.name;
            canonical = up single room named.2.name named.2.free;
            short = omega (arith, size_up named.2.name 3, one_less g.2, named.2.short);
          },
          named.3,
        )
      ];
}

leaf_row : IsSoundRow part.Step (nth (rows_of part.Step) 2)
unfolding rows_of
leaf_row =
    record {
      along = λ room last tokens parts goal g before.
          (Some g.0, g.1, record { route = route.Leaf; canonical = leaf single room; short = omega (arith, size_leaf 3, one_less g.2) }, g.4);
    }

root_row : IsSoundRow part.Step (nth (rows_of part.Step) 3)
unfolding rows_of
root_row =
    record {
      along = λ room last tokens parts goal g before.
          (Some g.0, g.1, record { route = route.Root; canonical = root single room; short = omega (arith, size_root 3, one_less g.2) }, g.4);
    }

type_row : IsSoundRow part.Step (nth (rows_of part.Step) 4)
unfolding rows_of roll-Route roll out-Route out
type_row = record {
  along = λ room last tokens parts goal g before.
      let ty = g.4 in
      let x : Name = name_of (Some ty.0) in
      elim (ty.4 tt) [
        | inl stopped ↦ (
          Some ty.0,
          ty.1,
          record {
            route = route.IsType x;
            canonical = is_type single room x (free_name ty.0 ty.3);
            short = omega (arith, size_is_type x 3, one_less g.2, one_less ty.2);
          },
          stopped.1,
        )
        | inr named ↦ (
          named.0,
          named.1,
          record {
            route = route.IsVariant x named.2.name;
            canonical = is_variant single room x
                named.2.name (free_name ty.0 ty.3) named.2.free;
            short = omega
                (arith, size_is_variant x named.2.name 3, one_less g.2, one_less ty.2, named.2.short);
          },
          named.3,
        )
      ];
}

true_row : IsSoundRow part.Step (nth (rows_of part.Step) 5)
unfolding rows_of
true_row = record {
  along = λ room last tokens parts goal g before.
      let f = g.4 in
      let x : Name = name_of (Some f.0) in (
        Some f.0,
        f.1,
        record {
          route = route.IsBool x true;
          canonical = is_bool single room x true (free_name f.0 f.3);
          short = omega (arith, size_is_bool x true 3, one_less g.2, one_less f.2);
        },
        f.4,
      );
}

false_row : IsSoundRow part.Step (nth (rows_of part.Step) 6)
unfolding rows_of
false_row = record {
  along = λ room last tokens parts goal g before.
      let f = g.4 in
      let x : Name = name_of (Some f.0) in (
        Some f.0,
        f.1,
        record {
          route = route.IsBool x false;
          canonical = is_bool single room x false (free_name f.0 f.3);
          short = omega (arith, size_is_bool x false 3, one_less g.2, one_less f.2);
        },
        f.4,
      );
}

group_row : IsSoundRow part.Step (nth (rows_of part.Step) 7)
unfolding rows_of
group_row = record {
  along = λ room last tokens parts goal g before.
      let inner = g.6 tt in
      let close = inner.3 in (
        Some close.0,
        close.1,
        record {
          route = inner.2.route;
          canonical = subst (λ n. IsCanonicalRoute single n inner.2.route) (sym g.1) (anywhere single inner.2.canonical);
          short = omega (arith, (route_rises inner.2.route).at_most, one_less g.4, inner.2.short, one_less close.2);
        },
        close.4,
      );
}

pub step_sound : AreSoundRows part.Step (rows_of part.Step)
unfolding rows_of
step_sound =
    or_row down_row
    (or_row up_row (or_row leaf_row (or_row root_row (or_row type_row (or_row true_row (or_row false_row (or_row group_row no_row)))))))

up_name_row : IsSoundRow part.UpName (nth (rows_of part.UpName) 0)
unfolding rows_of
up_name_row = record {
  along = λ room last tokens parts goal g before.
      (Some g.0, g.1, record { name = name_of (Some g.0); free = free_name g.0 g.3; short = omega (arith, one_less g.2) }, g.4);
}

pub up_name_sound : AreSoundRows part.UpName (rows_of part.UpName)
unfolding rows_of
up_name_sound = or_row up_name_row no_row

variant_test_row : IsSoundRow part.VariantTest (nth (rows_of part.VariantTest) 0)
unfolding rows_of
variant_test_row = record {
  along = λ room last tokens parts goal g before.
      let name = g.4 in (
        Some name.0,
        name.1,
        record { name = name_of (Some name.0); free = free_name name.0 name.3; short = omega (arith, one_less g.2, one_less name.2) },
        name.4,
      );
}

pub variant_test_sound : AreSoundRows part.VariantTest (rows_of part.VariantTest)
unfolding rows_of
variant_test_sound = or_row variant_test_row no_row
