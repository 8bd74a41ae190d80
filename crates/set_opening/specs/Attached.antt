-- The memory of an image that was attached, and fenced before all else.
pub use Rattle.image_opening.specs.Attached.{AreRead, IsAttached, IsSettled}
