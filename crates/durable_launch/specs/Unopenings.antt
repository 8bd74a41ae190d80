-- Why an image isn't opened, as crates above name it.
pub use Rattle.set_opening.specs.declared.unopened.Unopened.TheVariants.{BadImage, Full, ImageFailed, OutOfMemory, ShapeChanged}
