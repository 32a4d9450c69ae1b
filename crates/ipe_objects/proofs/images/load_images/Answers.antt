use Rattle.std.proofs.Common.{◌≡◌, ◌∙◌, ℕ, ◌<◌, ◌≤◌, min, List, [], ◌∷◌, ◌++◌, map, take, get_or, length, ap, sym, subst, arith}
use Rattle.std.specs.Prelude.{All, IsSomeAnd}
use Rattle.std.proofs.lemmas.List.{map_push, take_all, take_more}
use Rattle.blk_device.specs.Contents.{Contents, HasContent, content}
use Rattle.ipe_objects.specs.Devices.{HasRoom, bytes_under, named_devices, need_of}
use Rattle.ipe_objects.proofs.Loaded.{all-found, all-push, all-under, moved, moved-none, refused-first, refused-more, refused-none, room-held}
use Rattle.ipe_objects.proofs.images.load_images.Goals as goal

pub returns-in-Err-clause-answer : goal.returns-in-Err-clause-answer
returns-in-Err-clause-answer g c =
    let told = g.D.Devices.contents c.args.devices.now in
    let requests = c.args.requests.now in
    let named : List (List ℕ) = named_devices requests in
    let k : ℕ = c.loop-name.name-index in
    let name : List ℕ = c.name-item.result in
    let same : c.as_slice-name-items.result.now ≡ named = c.as_slice-name-items.ensures ∙ c.in_ok-names.ensures in
    let within : k < length named = subst (λ (l : List (List ℕ)). k < length l) same c.loop-name-test.true in
    let at : name ≡ get_or named k name = c.name-item.is ∙ ap (λ (l : List (List ℕ)). get_or l k name) same in
    let held : c.need_of-need.result ≡ min (need_of requests name) 18446744073709551615 =
    c.need_of-need.ensures ∙ ap (λ (n : List ℕ). min (need_of requests n) 18446744073709551615) c.as_slice.ensures in
    let is : c.from_vec.result ≡ name =
    c.from_vec.ensures ∙ c.in_ok-name.ensures.items_if_clones_equal (λ x y same. same) ∙ c.as_slice-in-loop-name.ensures in
    refused-first (List ℕ × List ℕ) Contents told requests named k name c.need_of-need.result c.in-Err.error within at held
    (moved (List ℕ × List ℕ) told (g.D.Devices.contents c.loop-name.devices) name c.from_vec.result c.need_of-need.result
    c.in-Err.error c.loop-name.invariant.same is c.in-Err.ensures.answer) c.loop-name.invariant.refused

pub loop-name-preserved : goal.loop-name-preserved
loop-name-preserved g c =
    let told = g.D.Devices.contents c.args.devices.now in
    let requests = c.args.requests.now in
    let named : List (List ℕ) = named_devices requests in
    let k : ℕ = c.loop-name.name-index in
    let name : List ℕ = c.name-item.result in
    let items : Contents = c.loop-name.items.items in
    let item : List ℕ × List ℕ = c.in-Ok.item in
    let same : c.as_slice-name-items.result.now ≡ named = c.as_slice-name-items.ensures ∙ c.in_ok-names.ensures in
    let within : k < length named = subst (λ (l : List (List ℕ)). k < length l) same c.loop-name-test.true in
    let at : name ≡ get_or named k name = c.name-item.is ∙ ap (λ (l : List (List ℕ)). get_or l k name) same in
    let held : c.need_of-need.result ≡ min (need_of requests name) 18446744073709551615 =
    c.need_of-need.ensures ∙ ap (λ (n : List ℕ). min (need_of requests n) 18446744073709551615) c.as_slice.ensures in
    let is : c.from_vec.result ≡ name =
    c.from_vec.ensures ∙ c.in_ok-name.ensures.items_if_clones_equal (λ x y same. same) ∙ c.as_slice-in-loop-name.ensures in
    let item_is : item.0 ≡ name = c.in-Ok.ensures.name ∙ is in
    let added : c.add.new.items.items ≡ items ++ item ∷ [] = c.in_ok-add-in-Ok.ensures in
    let first : List ℕ × List ℕ → List ℕ = λ pair. pair.0 in
    let Room : List ℕ × List ℕ → Type 0 = λ pair. HasRoom (need_of requests pair.0) pair.1 in
    let Content : List ℕ × List ℕ → Type 0 = λ pair. HasContent told pair.0 pair.1 in
    let room : Room item =
    subst (λ (n : List ℕ). HasRoom (need_of requests n) item.1) (sym item_is)
    (room-held (need_of requests name) 18446744073709551615 item.1 (omega arith)
    (subst (λ (n : ℕ). HasRoom n item.1) held c.in-Ok.ensures.room)) in
    let bytes : Content item =
    subst (λ (n : List ℕ). HasContent told n item.1) (sym c.in-Ok.ensures.name)
    (subst (λ t. HasContent t c.from_vec.result item.1) c.loop-name.invariant.same c.in-Ok.ensures.content) in
    record {
      names =
          ap (map first) added
          ∙ map_push first items item
          ∙ ap (λ (l : List (List ℕ)). l ++ item.0 ∷ []) c.loop-name.invariant.names
          ∙ ap (λ (n : List ℕ). take k named ++ n ∷ []) (item_is ∙ at)
          ∙ sym (take_more named k name within);
      rooms = subst (λ (l : Contents). All Room l) (sym added) (all-push Room items item c.loop-name.invariant.rooms room);
      contents =
          subst (λ (l : Contents). All Content l) (sym added)
          (all-push Content items item c.loop-name.invariant.contents bytes);
      refused =
          refused-more told requests named k name c.need_of-need.result within at held
          (moved-none told (g.D.Devices.contents c.loop-name.devices) name c.from_vec.result c.need_of-need.result
          c.loop-name.invariant.same is c.in-Ok.ensures.answer) c.loop-name.invariant.refused;
      same = c.in-Ok.ensures.same ∙ c.loop-name.invariant.same;
      never_falls = omega (arith, c.loop-name.invariant.never_falls, c.in-Ok.ensures.never_falls);
    }

pub returns-clause-images : goal.returns-clause-images
returns-clause-images g c =
    let requests = c.args.requests.now in
    let named : List (List ℕ) = named_devices requests in
    let k : ℕ = c.loop-name.name-index in
    let same : c.as_slice-name-items.result.now ≡ named = c.as_slice-name-items.ensures ∙ c.in_ok-names.ensures in
    let past : length named ≤ k = subst (λ (l : List (List ℕ)). length l ≤ k) same c.loop-name-test.false in
    subst (λ (items : Contents). All (λ name. IsSomeAnd (content name items) (HasRoom (need_of requests name))) named)
    (sym c.from_vec-2.ensures)
    (all-found (λ name bytes. HasRoom (need_of requests name) bytes) c.loop-name.items.items named
    (c.loop-name.invariant.names ∙ take_all k named past) c.loop-name.invariant.rooms)

pub returns-clause-content : goal.returns-clause-content
returns-clause-content g c =
    let told = g.D.Devices.contents c.args.devices.now in
    let named : List (List ℕ) = named_devices c.args.requests.now in
    let k : ℕ = c.loop-name.name-index in
    let same : c.as_slice-name-items.result.now ≡ named = c.as_slice-name-items.ensures ∙ c.in_ok-names.ensures in
    let past : length named ≤ k = subst (λ (l : List (List ℕ)). length l ≤ k) same c.loop-name-test.false in
    subst (λ (items : Contents). All (λ name. HasContent told name (bytes_under items name)) named)
    (sym c.from_vec-2.ensures)
    (all-under (HasContent told) c.loop-name.items.items named
    (all-found (HasContent told) c.loop-name.items.items named
    (c.loop-name.invariant.names ∙ take_all k named past) c.loop-name.invariant.contents))

pub returns-clause-answer : goal.returns-clause-answer
returns-clause-answer g c =
    let named : List (List ℕ) = named_devices c.args.requests.now in
    let k : ℕ = c.loop-name.name-index in
    let same : c.as_slice-name-items.result.now ≡ named = c.as_slice-name-items.ensures ∙ c.in_ok-names.ensures in
    let past : length named ≤ k = subst (λ (l : List (List ℕ)). length l ≤ k) same c.loop-name-test.false in
    refused-none (g.D.Devices.contents c.args.devices.now) c.args.requests.now named k past c.loop-name.invariant.refused
