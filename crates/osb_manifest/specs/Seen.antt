-- What the code's objects stand for.
use Rattle.serde_json.specs.View.{view}
use Rattle.osb_manifest.specs.Walks.{Object, at_top, at_pipeline, at_stage, at_input, at_source, at_item}
use Rattle.osb_manifest.specs.declared.objects.Object.{Object as SeenObject}
use Rattle.osb_manifest.specs.declared.objects.Object.TheVariants as seen

abbrev pub object_of : SeenObject → Object
object_of (seen.Top value) = at_top (view value.now)
object_of (seen.Pipeline i value) = at_pipeline i (view value.now)
object_of (seen.Stage i j value) = at_stage i j (view value.now)
object_of (seen.Input i j name value) = at_input i j name.now (view value.now)
object_of (seen.Source name value) = at_source name.now (view value.now)
object_of (seen.Item source name value) = at_item source.now name.now (view value.now)
