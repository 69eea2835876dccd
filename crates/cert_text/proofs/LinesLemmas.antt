-- Lines: what is read of one is spelled so.
use Rattle.std.proofs.Common.{◌≡◌, ℕ, Bool, true, false, cond, List, [], ◌∷◌, ◌++◌, Option, Some, None}
use Rattle.std.proofs.Common.{refl, sym, ap, ◌∙◌, subst, codes, append_assoc}
use Rattle.std.specs.Str.{bytes_eq}
use Rattle.cert_text.specs.declared.line.Way.{Way}
use Rattle.cert_text.specs.declared.line.Target.{Target}
use Rattle.cert_text.specs.declared.line.Line.{Line}
use Rattle.cert_text.specs.declared.line.Line.TheVariants as line
use Rattle.cert_text.specs.Spelling.{number_text, way_text, target_text, bit_text, joined, word_of}
use Rattle.cert_text.specs.Spelling.{fields_of, line_text, IsNumber, AreNumbers, IsTarget, IsLine}
use Rattle.cert_text.specs.Reading.{◌>>=◌, cut_word, number_next, way_next, target_next}
use Rattle.cert_text.specs.Reading.{bit_next, numbers_of, ended, certificate_line, triple_line, section_line}
use Rattle.cert_text.specs.Reading.{and_line, ex_line, space_line, left_line, right_line, node_line, root_line, accept_line, pair_line, start_line}
use Rattle.cert_text.specs.Reading.{settle_line, set_line, heading_line, step_line, table_line, listing_line, line_of, cut_line, line_at}
use Rattle.cert_text.proofs.WordsLemmas.{cut_word-whole, cut_line-whole}
use Rattle.cert_text.proofs.FieldsLemmas.{bind-some, map-some, eq-is, number-whole, way-whole, bit-whole}
use Rattle.cert_text.proofs.FieldsLemmas.{target-whole, numbers-whole}
use Rattle.cert_text.proofs.FieldsLemmas.{numbers_text}

-- ---- what is read is spelled so

abbrev pub fields_text : Line → List ℕ
fields_text l = joined (fields_of l)

-- the word and the fields are the line's
pub record IsTold (word bytes : List ℕ) (l : Line) : Type 0 where
  pub is_line : IsLine l
  pub word_is : word ≡ word_of l
  pub fields_are : bytes ≡ fields_text l

told : (word bytes : List ℕ) (l m : Line) → l ≡ m → IsTold word bytes l → IsTold word bytes m
told word bytes l m same is = subst (IsTold word bytes) same is

-- nothing is behind the last field
ended-some : (rest : List ℕ) (l m : Line) → ended rest l ≡ Some m → (rest ≡ []) × (l ≡ m)
ended-some [] l m e = (refl, cc)
ended-some (b ∷ bs) l m e = absurd (cc)

on : (text rest others : List ℕ) → rest ≡ others → text ++ rest ≡ text ++ others
on text rest others same = ap (λ l. text ++ l) same

-- what follows from a field that was read
number-then : (bytes : List ℕ) (f : ℕ × List ℕ → Option Line) (m : Line) (P : Type 0) → number_next bytes >>= f ≡ Some m →
    ((n : ℕ) (rest : List ℕ) → IsNumber n → bytes ≡ number_text n ++ rest → f (n, rest) ≡ Some m → P) → P
number-then bytes f m P e next =
    let x = bind-some (number_next bytes) f m e in
    let is = number-whole bytes x.0 x.1 in
    next x.0.0 x.0.1 is.0 is.1.0 x.2

target-then : (bytes : List ℕ) (f : Target × List ℕ → Option Line) (m : Line) (P : Type 0) → target_next bytes >>= f ≡ Some m →
    ((t : Target) (rest : List ℕ) → IsTarget t → bytes ≡ target_text t ++ rest → f (t, rest) ≡ Some m → P) → P
target-then bytes f m P e next =
    let x = bind-some (target_next bytes) f m e in
    let is = target-whole bytes x.0 x.1 in
    next x.0.0 x.0.1 is.0 is.1.0 x.2

way-then : (bytes : List ℕ) (f : Way × List ℕ → Option Line) (m : Line) (P : Type 0) → way_next bytes >>= f ≡ Some m →
    ((w : Way) (rest : List ℕ) → bytes ≡ way_text w ++ rest → f (w, rest) ≡ Some m → P) → P
way-then bytes f m P e next =
    let x = bind-some (way_next bytes) f m e in
    let is = way-whole bytes x.0 x.1 in
    next x.0.0 x.0.1 is.0 x.2

bit-then : (bytes : List ℕ) (f : Bool × List ℕ → Option Line) (m : Line) (P : Type 0) → bit_next bytes >>= f ≡ Some m →
    ((b : Bool) (rest : List ℕ) → bytes ≡ bit_text b ++ rest → f (b, rest) ≡ Some m → P) → P
bit-then bytes f m P e next =
    let x = bind-some (bit_next bytes) f m e in
    let is = bit-whole bytes x.0 x.1 in
    next x.0.0 x.0.1 is.0 x.2

numbers-then : (bytes : List ℕ) (f : List ℕ → Option Line) (m : Line) (P : Type 0) → numbers_of bytes >>= f ≡ Some m →
    ((ns : List ℕ) → AreNumbers ns → bytes ≡ numbers_text ns → f ns ≡ Some m → P) → P
numbers-then bytes f m P e next =
    let x = bind-some (numbers_of bytes) f m e in
    let is = numbers-whole bytes x.0 x.1 in
    next x.0 is.0 is.1 x.2

certificate-told : (bytes : List ℕ) (m : Line) → certificate_line bytes ≡ Some m → IsTold (codes "pale-certificate") bytes m
unfolding certificate_line
certificate-told bytes m e = by (bytes_eq bytes (codes " 1")) refl e
  where
    by : (t : Bool) → bytes_eq bytes (codes " 1") ≡ t → cond t (let o : Option Line = Some line.Certificate in o) None ≡ Some m →
        IsTold (codes "pale-certificate") bytes m
    by true is e =
        let same : line.Certificate ≡ m = cc in
        told (codes "pale-certificate") bytes line.Certificate m same (record { is_line = tt; word_is = refl; fields_are = eq-is bytes (codes " 1") is })
    by false is e = absurd (cc)

-- a line without fields
bare-told : (word bytes : List ℕ) (l m : Line) → word ≡ word_of l → IsLine l → [] ≡ fields_text l → ended bytes l ≡ Some m → IsTold word bytes m
bare-told word bytes l m named is none e =
    let done = ended-some bytes l m e in
    told word bytes l m done.1 (record { is_line = is; word_is = named; fields_are = done.0 ∙ none })

triple-told : (bytes : List ℕ) (m : Line) → triple_line bytes ≡ Some m → IsTold (codes "triple") bytes m
unfolding triple_line
triple-told bytes m e =
    number-then bytes _ m (IsTold (codes "triple") bytes m) e (λ v_k r_k is_k at_k e_k.
    let done = ended-some r_k (line.Triple v_k) m e_k in
    let from_k : bytes ≡ number_text v_k ++ ([]) = at_k ∙ on (number_text v_k) r_k ([]) done.0 in
    told (codes "triple") bytes (line.Triple v_k) m done.1 (record { is_line = is_k; word_is = refl; fields_are = from_k }))

section-told : (bytes : List ℕ) (m : Line) → section_line bytes ≡ Some m → IsTold (codes "section") bytes m
unfolding section_line
section-told bytes m e =
    way-then bytes _ m (IsTold (codes "section") bytes m) e (λ v_way r_way at_way e_way.
    number-then r_way _ m (IsTold (codes "section") bytes m) e_way (λ v_parts r_parts is_parts at_parts e_parts.
    let done = ended-some r_parts (line.Section (record { way = v_way; parts = v_parts })) m e_parts in
    let from_parts : r_way ≡ number_text v_parts ++ ([]) = at_parts ∙ on (number_text v_parts) r_parts ([]) done.0 in
    let from_way : bytes ≡ way_text v_way ++ (number_text v_parts ++ ([])) = at_way ∙ on (way_text v_way) r_way (number_text v_parts ++ ([])) from_parts in
    told (codes "section") bytes (line.Section (record { way = v_way; parts = v_parts })) m done.1
    (record { is_line = is_parts; word_is = refl; fields_are = from_way })))

and-told : (bytes : List ℕ) (m : Line) → and_line bytes ≡ Some m → IsTold (codes "and") bytes m
unfolding and_line
and-told bytes m e =
    number-then bytes _ m (IsTold (codes "and") bytes m) e (λ v_k r_k is_k at_k e_k.
    let done = ended-some r_k (line.And v_k) m e_k in
    let from_k : bytes ≡ number_text v_k ++ ([]) = at_k ∙ on (number_text v_k) r_k ([]) done.0 in
    told (codes "and") bytes (line.And v_k) m done.1 (record { is_line = is_k; word_is = refl; fields_are = from_k }))

ex-told : (bytes : List ℕ) (m : Line) → ex_line bytes ≡ Some m → IsTold (codes "ex") bytes m
unfolding ex_line
ex-told bytes m e =
    number-then bytes _ m (IsTold (codes "ex") bytes m) e (λ v_k r_k is_k at_k e_k.
    let done = ended-some r_k (line.Ex v_k) m e_k in
    let from_k : bytes ≡ number_text v_k ++ ([]) = at_k ∙ on (number_text v_k) r_k ([]) done.0 in
    told (codes "ex") bytes (line.Ex v_k) m done.1 (record { is_line = is_k; word_is = refl; fields_are = from_k }))

space-told : (bytes : List ℕ) (m : Line) → space_line bytes ≡ Some m → IsTold (codes "space") bytes m
unfolding space_line
space-told bytes m e =
    number-then bytes _ m (IsTold (codes "space") bytes m) e (λ v_space r_space is_space at_space e_space.
    number-then r_space _ m (IsTold (codes "space") bytes m) e_space (λ v_states r_states is_states at_states e_states.
    number-then r_states _ m (IsTold (codes "space") bytes m) e_states (λ v_initial r_initial is_initial at_initial e_initial.
    let done = ended-some r_initial (line.Space (record { space = v_space; states = v_states; initial = v_initial })) m e_initial in
    let from_initial : r_states ≡ number_text v_initial ++ ([]) = at_initial ∙ on (number_text v_initial) r_initial ([]) done.0 in
    let from_states : r_space ≡ number_text v_states ++ (number_text v_initial ++ ([])) =
    at_states ∙ on (number_text v_states) r_states (number_text v_initial ++ ([])) from_initial in
    let from_space : bytes ≡ number_text v_space ++ (number_text v_states ++ (number_text v_initial ++ ([]))) =
    at_space ∙ on (number_text v_space) r_space (number_text v_states ++ (number_text v_initial ++ ([]))) from_states in
    told (codes "space") bytes (line.Space (record { space = v_space; states = v_states; initial = v_initial })) m done.1 (record {
      is_line =
          (is_space, is_states, is_initial);
      word_is = refl;
      fields_are = from_space;
    }))))

left-told : (bytes : List ℕ) (m : Line) → left_line bytes ≡ Some m → IsTold (codes "left") bytes m
unfolding left_line
left-told bytes m e =
    number-then bytes _ m (IsTold (codes "left") bytes m) e (λ v_space r_space is_space at_space e_space.
    numbers-then r_space _ m (IsTold (codes "left") bytes m) e_space (λ v_classes is_classes at_classes e_classes.
    let same : line.Left (record { space = v_space; classes = v_classes }) ≡ m = cc in
    let from_space : bytes ≡ number_text v_space ++ (numbers_text v_classes) =
    at_space ∙ on (number_text v_space) r_space (numbers_text v_classes) at_classes in
    told (codes "left") bytes (line.Left (record { space = v_space; classes = v_classes })) m same (record {
      is_line =
          (is_space, is_classes);
      word_is = refl;
      fields_are = from_space;
    })))

right-told : (bytes : List ℕ) (m : Line) → right_line bytes ≡ Some m → IsTold (codes "right") bytes m
unfolding right_line
right-told bytes m e =
    number-then bytes _ m (IsTold (codes "right") bytes m) e (λ v_space r_space is_space at_space e_space.
    numbers-then r_space _ m (IsTold (codes "right") bytes m) e_space (λ v_classes is_classes at_classes e_classes.
    let same : line.Right (record { space = v_space; classes = v_classes }) ≡ m = cc in
    let from_space : bytes ≡ number_text v_space ++ (numbers_text v_classes) =
    at_space ∙ on (number_text v_space) r_space (numbers_text v_classes) at_classes in
    told (codes "right") bytes (line.Right (record { space = v_space; classes = v_classes })) m same (record {
      is_line =
          (is_space, is_classes);
      word_is = refl;
      fields_are = from_space;
    })))

node-told : (bytes : List ℕ) (m : Line) → node_line bytes ≡ Some m → IsTold (codes "node") bytes m
unfolding node_line
node-told bytes m e =
    number-then bytes _ m (IsTold (codes "node") bytes m) e (λ v_node r_node is_node at_node e_node.
    number-then r_node _ m (IsTold (codes "node") bytes m) e_node (λ v_track r_track is_track at_track e_track.
    target-then r_track _ m (IsTold (codes "node") bytes m) e_track (λ v_low r_low is_low at_low e_low.
    target-then r_low _ m (IsTold (codes "node") bytes m) e_low (λ v_high r_high is_high at_high e_high.
    let done = ended-some r_high (line.Node (record { node = v_node; track = v_track; low = v_low; high = v_high })) m e_high in
    let from_high : r_low ≡ target_text v_high ++ ([]) = at_high ∙ on (target_text v_high) r_high ([]) done.0 in
    let from_low : r_track ≡ target_text v_low ++ (target_text v_high ++ ([])) = at_low ∙ on (target_text v_low) r_low (target_text v_high ++ ([])) from_high in
    let from_track : r_node ≡ number_text v_track ++ (target_text v_low ++ (target_text v_high ++ ([]))) =
    at_track ∙ on (number_text v_track) r_track (target_text v_low ++ (target_text v_high ++ ([]))) from_low in
    let from_node : bytes ≡ number_text v_node ++ (number_text v_track ++ (target_text v_low ++ (target_text v_high ++ ([])))) =
    at_node ∙ on (number_text v_node) r_node (number_text v_track ++ (target_text v_low ++ (target_text v_high ++ ([])))) from_track in
    told (codes "node") bytes (line.Node (record { node = v_node; track = v_track; low = v_low; high = v_high })) m done.1 (record {
      is_line =
          (is_node, is_track, is_low, is_high);
      word_is = refl;
      fields_are = from_node;
    })))))

root-told : (bytes : List ℕ) (m : Line) → root_line bytes ≡ Some m → IsTold (codes "root") bytes m
unfolding root_line
root-told bytes m e =
    number-then bytes _ m (IsTold (codes "root") bytes m) e (λ v_space r_space is_space at_space e_space.
    number-then r_space _ m (IsTold (codes "root") bytes m) e_space (λ v_left r_left is_left at_left e_left.
    number-then r_left _ m (IsTold (codes "root") bytes m) e_left (λ v_right r_right is_right at_right e_right.
    target-then r_right _ m (IsTold (codes "root") bytes m) e_right (λ v_target r_target is_target at_target e_target.
    let done = ended-some r_target (line.Root (record { space = v_space; left = v_left; right = v_right; target = v_target })) m e_target in
    let from_target : r_right ≡ target_text v_target ++ ([]) = at_target ∙ on (target_text v_target) r_target ([]) done.0 in
    let from_right : r_left ≡ number_text v_right ++ (target_text v_target ++ ([])) =
    at_right ∙ on (number_text v_right) r_right (target_text v_target ++ ([])) from_target in
    let from_left : r_space ≡ number_text v_left ++ (number_text v_right ++ (target_text v_target ++ ([]))) =
    at_left ∙ on (number_text v_left) r_left (number_text v_right ++ (target_text v_target ++ ([]))) from_right in
    let from_space : bytes ≡ number_text v_space ++ (number_text v_left ++ (number_text v_right ++ (target_text v_target ++ ([])))) =
    at_space ∙ on (number_text v_space) r_space (number_text v_left ++ (number_text v_right ++ (target_text v_target ++ ([])))) from_left in
    told (codes "root") bytes (line.Root (record { space = v_space; left = v_left; right = v_right; target = v_target })) m done.1 (record {
      is_line =
          (is_space, is_left, is_right, is_target);
      word_is = refl;
      fields_are = from_space;
    })))))

pair-told : (bytes : List ℕ) (m : Line) → pair_line bytes ≡ Some m → IsTold (codes "pair") bytes m
unfolding pair_line
pair-told bytes m e =
    number-then bytes _ m (IsTold (codes "pair") bytes m) e (λ v_space r_space is_space at_space e_space.
    number-then r_space _ m (IsTold (codes "pair") bytes m) e_space (λ v_first r_first is_first at_first e_first.
    number-then r_first _ m (IsTold (codes "pair") bytes m) e_first (λ v_second r_second is_second at_second e_second.
    number-then r_second _ m (IsTold (codes "pair") bytes m) e_second (λ v_state r_state is_state at_state e_state.
    let done = ended-some r_state (line.Pair (record { space = v_space; first = v_first; second = v_second; state = v_state })) m e_state in
    let from_state : r_second ≡ number_text v_state ++ ([]) = at_state ∙ on (number_text v_state) r_state ([]) done.0 in
    let from_second : r_first ≡ number_text v_second ++ (number_text v_state ++ ([])) =
    at_second ∙ on (number_text v_second) r_second (number_text v_state ++ ([])) from_state in
    let from_first : r_space ≡ number_text v_first ++ (number_text v_second ++ (number_text v_state ++ ([]))) =
    at_first ∙ on (number_text v_first) r_first (number_text v_second ++ (number_text v_state ++ ([]))) from_second in
    let from_space : bytes ≡ number_text v_space ++ (number_text v_first ++ (number_text v_second ++ (number_text v_state ++ ([])))) =
    at_space ∙ on (number_text v_space) r_space (number_text v_first ++ (number_text v_second ++ (number_text v_state ++ ([])))) from_first in
    told (codes "pair") bytes (line.Pair (record { space = v_space; first = v_first; second = v_second; state = v_state })) m done.1 (record {
      is_line =
          (is_space, is_first, is_second, is_state);
      word_is = refl;
      fields_are = from_space;
    })))))

start-told : (bytes : List ℕ) (m : Line) → start_line bytes ≡ Some m → IsTold (codes "init") bytes m
unfolding start_line
start-told bytes m e =
    number-then bytes _ m (IsTold (codes "init") bytes m) e (λ v_space r_space is_space at_space e_space.
    number-then r_space _ m (IsTold (codes "init") bytes m) e_space (λ v_state r_state is_state at_state e_state.
    let done = ended-some r_state (line.Start (record { space = v_space; state = v_state })) m e_state in
    let from_state : r_space ≡ number_text v_state ++ ([]) = at_state ∙ on (number_text v_state) r_state ([]) done.0 in
    let from_space : bytes ≡ number_text v_space ++ (number_text v_state ++ ([])) =
    at_space ∙ on (number_text v_space) r_space (number_text v_state ++ ([])) from_state in
    told (codes "init") bytes (line.Start (record { space = v_space; state = v_state })) m done.1 (record {
      is_line =
          (is_space, is_state);
      word_is = refl;
      fields_are = from_space;
    })))

settle-told : (bytes : List ℕ) (m : Line) → settle_line bytes ≡ Some m → IsTold (codes "settle") bytes m
unfolding settle_line
settle-told bytes m e =
    number-then bytes _ m (IsTold (codes "settle") bytes m) e (λ v_space r_space is_space at_space e_space.
    number-then r_space _ m (IsTold (codes "settle") bytes m) e_space (λ v_state r_state is_state at_state e_state.
    number-then r_state _ m (IsTold (codes "settle") bytes m) e_state (λ v_left r_left is_left at_left e_left.
    number-then r_left _ m (IsTold (codes "settle") bytes m) e_left (λ v_right r_right is_right at_right e_right.
    bit-then r_right _ m (IsTold (codes "settle") bytes m) e_right (λ v_has_bound r_has_bound at_has_bound e_has_bound.
    let done = ended-some r_has_bound (line.Settle (record {
      space = v_space;
      state = v_state;
      left = v_left;
      right = v_right;
      has_bound =
          v_has_bound;
    })) m e_has_bound in
    let from_has_bound : r_right ≡ bit_text v_has_bound ++ ([]) = at_has_bound ∙ on (bit_text v_has_bound) r_has_bound ([]) done.0 in
    let from_right : r_left ≡ number_text v_right ++ (bit_text v_has_bound ++ ([])) =
    at_right ∙ on (number_text v_right) r_right (bit_text v_has_bound ++ ([])) from_has_bound in
    let from_left : r_state ≡ number_text v_left ++ (number_text v_right ++ (bit_text v_has_bound ++ ([]))) =
    at_left ∙ on (number_text v_left) r_left (number_text v_right ++ (bit_text v_has_bound ++ ([]))) from_right in
    let from_state : r_space ≡ number_text v_state ++ (number_text v_left ++ (number_text v_right ++ (bit_text v_has_bound ++ ([])))) =
    at_state ∙ on (number_text v_state) r_state (number_text v_left ++ (number_text v_right ++ (bit_text v_has_bound ++ ([])))) from_left in
    let from_space : bytes ≡ number_text v_space ++ (number_text v_state ++ (number_text v_left ++ (number_text v_right ++ (bit_text v_has_bound ++
    ([]))))) = at_space ∙ on (number_text v_space) r_space (number_text v_state ++ (number_text v_left ++ (number_text v_right ++ (bit_text v_has_bound ++
    ([]))))) from_state in
    told (codes "settle") bytes (line.Settle
    (record { space = v_space; state = v_state; left = v_left; right = v_right; has_bound = v_has_bound })) m done.1 (record {
      is_line =
          (is_space, is_state, is_left, is_right);
      word_is = refl;
      fields_are = from_space;
    }))))))

set-told : (bytes : List ℕ) (m : Line) → set_line bytes ≡ Some m → IsTold (codes "set") bytes m
unfolding set_line
set-told bytes m e =
    number-then bytes _ m (IsTold (codes "set") bytes m) e (λ v_space r_space is_space at_space e_space.
    number-then r_space _ m (IsTold (codes "set") bytes m) e_space (λ v_state r_state is_state at_state e_state.
    numbers-then r_state _ m (IsTold (codes "set") bytes m) e_state (λ v_members is_members at_members e_members.
    let same : line.Set (record { space = v_space; state = v_state; members = v_members }) ≡ m = cc in
    let from_state : r_space ≡ number_text v_state ++ (numbers_text v_members) =
    at_state ∙ on (number_text v_state) r_state (numbers_text v_members) at_members in
    let from_space : bytes ≡ number_text v_space ++ (number_text v_state ++ (numbers_text v_members)) =
    at_space ∙ on (number_text v_space) r_space (number_text v_state ++ (numbers_text v_members)) from_state in
    told (codes "set") bytes (line.Set (record { space = v_space; state = v_state; members = v_members })) m same (record {
      is_line =
          (is_space, is_state, is_members);
      word_is = refl;
      fields_are = from_space;
    }))))

accept-told : (bytes : List ℕ) (m : Line) → accept_line bytes ≡ Some m → IsTold (codes "accept") bytes m
unfolding accept_line
accept-told bytes m e =
    let qs = map-some (numbers_of bytes) line.Accept m e in
    let of_qs = numbers-whole bytes qs.0 qs.1 in
    told (codes "accept") bytes (line.Accept qs.0) m qs.2 (record { is_line = of_qs.0; word_is = refl; fields_are = of_qs.1 })

-- a line is one of a word, or another
choose : (word name bytes : List ℕ) (one other : Option Line) (m : Line) → (one ≡ Some m → IsTold name bytes m) → (other ≡ Some m → IsTold word bytes m) →
    cond (bytes_eq word name) one other ≡ Some m → IsTold word bytes m
choose word name bytes one other m of_one of_other e = by (bytes_eq word name) refl e
  where
    by : (t : Bool) → bytes_eq word name ≡ t → cond t one other ≡ Some m → IsTold word bytes m
    by true is e = subst (λ w. IsTold w bytes m) (sym (eq-is word name is)) (of_one e)
    by false is e = of_other e

none-told : (word bytes : List ℕ) (m : Line) → (let o : Option Line = None in o) ≡ Some m → IsTold word bytes m
none-told word bytes m e = absurd (cc)

heading-told : (word bytes : List ℕ) (m : Line) → heading_line word bytes ≡ Some m → IsTold word bytes m
unfolding heading_line
heading-told word bytes m e =
    choose word (codes "pale-certificate") bytes _ _ m (certificate-told bytes m)
    (choose word (codes "triple") bytes _ _ m (triple-told bytes m)
    (choose word (codes "program") bytes _ _ m (bare-told (codes "program") bytes line.Program m refl tt refl)
    (choose word (codes "section") bytes _ _ m (section-told bytes m)
    (choose word (codes "end") bytes _ _ m (bare-told (codes "end") bytes line.End m refl tt refl) (none-told word bytes m))))) e

step-told : (word bytes : List ℕ) (m : Line) → step_line word bytes ≡ Some m → IsTold word bytes m
unfolding step_line
step-told word bytes m e =
    choose word (codes "and") bytes _ _ m (and-told bytes m)
    (choose word (codes "ex") bytes _ _ m (ex-told bytes m)
    (choose word (codes "space") bytes _ _ m (space-told bytes m)
    (choose word (codes "init") bytes _ _ m (start-told bytes m)
    (choose word (codes "settle") bytes _ _ m (settle-told bytes m) (heading-told word bytes m))))) e

table-told : (word bytes : List ℕ) (m : Line) → table_line word bytes ≡ Some m → IsTold word bytes m
unfolding table_line
table-told word bytes m e =
    choose word (codes "pair") bytes _ _ m (pair-told bytes m)
    (choose word (codes "node") bytes _ _ m (node-told bytes m)
    (choose word (codes "root") bytes _ _ m (root-told bytes m) (step-told word bytes m))) e

listing-told : (word bytes : List ℕ) (m : Line) → listing_line word bytes ≡ Some m → IsTold word bytes m
unfolding listing_line
listing-told word bytes m e =
    choose word (codes "set") bytes _ _ m (set-told bytes m)
    (choose word (codes "left") bytes _ _ m (left-told bytes m)
    (choose word (codes "right") bytes _ _ m (right-told bytes m)
    (choose word (codes "accept") bytes _ _ m (accept-told bytes m) (table-told word bytes m)))) e

pub spelled-apart : (l : Line) (rest : List ℕ) → line_text l ++ rest ≡ (word_of l ++ fields_text l) ++ 10 ∷ rest
spelled-apart l rest = append_assoc (word_of l ++ fields_text l) (codes "\n") rest

pub line_at-told : (text : List ℕ) (x : Line × List ℕ) → line_at text ≡ Some x → IsLine x.0 × (text ≡ line_text x.0 ++ x.1)
unfolding line_at line_of
line_at-told text x e =
    let cut = bind-some (cut_line text) (λ c. line_of c.0 >>= (λ l. Some (l, c.1))) x e in
    let l = bind-some (line_of cut.0.0) (λ m. let o : Option (Line × List ℕ) = Some (m, cut.0.1) in o) x cut.2 in
    let is = listing-told (cut_word cut.0.0).0 (cut_word cut.0.0).1 l.0 l.1 in
    let whole = cut_word-whole cut.0.0 in
    let front : cut.0.0 ≡ word_of l.0 ++ fields_text l.0 = whole.0 ∙ (λ i. is.word_is i ++ is.fields_are i) in
    let same : (l.0, cut.0.1) ≡ x = cc in
    subst (λ (y : Line × List ℕ). IsLine y.0 × (text ≡ line_text y.0 ++ y.1)) same (
      is.is_line,
      cut_line-whole text cut.0 cut.1 ∙ ap (λ f. f ++ 10 ∷ cut.0.1) front ∙ sym (spelled-apart l.0 cut.0.1),
    )
